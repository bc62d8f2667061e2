mod AboveLemmas
mod AdjoinLemmas
mod AloneLemmas
mod BareLemmas
mod BeginningLemmas
mod BesideLemmas
mod CellLemmas
mod ChangedLemmas
pub mod ClusterLemmas
pub mod ColumnCacheLemmas
pub mod ColumnSumLemmas
pub mod ColumnLemmas
mod CountingLemmas
pub mod EndLemmas
mod ExtentLemmas
mod FewLines
pub mod FillingLemmas
pub mod InfoLemmas
pub mod KeptLemmas
mod KnownWidthLemmas
pub mod LayoutLemmas
mod LengthLemmas
pub mod MatchingLemmas
mod MeasureLemmas
mod OneLineLemmas
mod OrderedLemmas
pub mod PageLemmas
pub mod RunColumnLemmas
pub mod SameKindLemmas
mod SegmentLemmas
mod SelectionLemmas
mod ReadingLemmas
mod RefillingEnds
mod RefillingLemmas
mod RefillingWidths
pub mod ReorderingLemmas
pub mod SharedLemmas
pub mod ShowLemmas
mod ShownColumnLemmas
pub mod ShownPartLemmas
mod SizedLemmas
pub mod SkippedLemmas
mod SpanLemmas
mod EditedLemmas
mod RefilledLemmas
mod SplicedExtents
mod SplicedLemmas
pub mod SplicingLemmas
mod SplitLemmas
mod StayLemmas
pub mod StayingLemmas
mod StopLemmas
mod TabLemmas
pub mod VisualLemmas
mod WholeLemmas
pub mod WidthLemmas
mod WorkedBytes
mod WorkedRows
mod WorkedSpans
pub mod WriteLemmas
mod WrittenLemmas
