mod AloneLemmas
mod BaseLemmas
pub mod BlockLemmas
mod BracketLemmas
mod BracketStepLemmas
mod BracketTypeLemmas
mod ClosersLemmas
mod CutLemmas
mod DepthLemmas
mod DoublingBrackets
mod DoublingCharacters
mod DoublingExplicit
mod DoublingIsolates
mod DoublingLevels
mod DoublingLists
mod DoublingPairs
mod DoublingRules
mod DoublingSequences
mod DoublingTexts
mod ExplicitLemmas
mod ExplicitStepLemmas
mod FlatLemmas
pub mod FrontLemmas
mod IsolateLemmas
mod JumpLemmas
pub mod LastLemmas
pub mod LeastLemmas
pub mod LengthLemmas
mod LevelLemmas
mod LevelReasonLemmas
mod MatchLemmas
mod NeutralLemmas
mod NeutralStepLemmas
mod NeutralTableLemmas
mod NoBracketLemmas
mod OpenerLemmas
mod OpenersLemmas
pub mod LookedUpLemmas
mod OverlapLemmas
pub mod PairLemmas
mod PartnerLemmas
mod PiecesLemmas
mod PlainLemmas
mod ResolverLemmas
mod ReuseLemmas
mod RunLemmas
mod SequenceStartLemmas
mod SequenceStepLemmas
pub mod PartLemmas
pub mod TextCutLemmas
mod WaitingLemmas
mod WeakLemmas
mod WeakStateLemmas
mod WeakStepLemmas
mod WeakTableLemmas
mod WorkedBracketSteps
mod WorkedBrackets
mod WorkedLevels
mod WorkedRows
