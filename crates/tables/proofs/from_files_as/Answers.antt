use Rattle.std.proofs.Common.{ℕ, ◌<◌, List, lit<, below_none, below_more}
use Rattle.tables.proofs.FolderLemmas.{unread}
use Rattle.tables.proofs.from_files_as.Goals as goal

-- A file that cannot be read is the first such file if all files before it can be read.
pub returns-in_err-bidi_mirroring-clause-err : goal.returns-in_err-bidi_mirroring-clause-err
returns-in_err-bidi_mirroring-clause-err g c =
    let P : ℕ → Type 0 = λ k. (bytes : List ℕ) × g.F.TableFolder.has_file c.args.folder.now k bytes in
    let first_1 : (k : ℕ) → k < 1 → P k = below_more P 0 (below_none P) (c.in_ok-bidi_class.bidi_class.items, c.in_ok-bidi_class.ensures.ok) in
    let first_2 : (k : ℕ) → k < 2 → P k = below_more P 1 first_1 (c.in_ok-bidi_brackets.bidi_brackets.items, c.in_ok-bidi_brackets.ensures.ok) in
    unread _ _ c.args.version c.from_residual-in_err-bidi_mirroring.result _ c.from_residual-in_err-bidi_mirroring.ensures.1 2 (lit< tt) first_2 c.in_err-bidi_mirroring.ensures.err

pub returns-in_err-line_break-clause-err : goal.returns-in_err-line_break-clause-err
returns-in_err-line_break-clause-err g c =
    let P : ℕ → Type 0 = λ k. (bytes : List ℕ) × g.F.TableFolder.has_file c.args.folder.now k bytes in
    let first_1 : (k : ℕ) → k < 1 → P k = below_more P 0 (below_none P) (c.in_ok-bidi_class.bidi_class.items, c.in_ok-bidi_class.ensures.ok) in
    let first_2 : (k : ℕ) → k < 2 → P k = below_more P 1 first_1 (c.in_ok-bidi_brackets.bidi_brackets.items, c.in_ok-bidi_brackets.ensures.ok) in
    let first_3 : (k : ℕ) → k < 3 → P k = below_more P 2 first_2 (c.in_ok-bidi_mirroring.bidi_mirroring.items, c.in_ok-bidi_mirroring.ensures.ok) in
    unread _ _ c.args.version c.from_residual-in_err-line_break.result _ c.from_residual-in_err-line_break.ensures.1 3 (lit< tt) first_3 c.in_err-line_break.ensures.err

pub returns-in_err-general_category-clause-err : goal.returns-in_err-general_category-clause-err
returns-in_err-general_category-clause-err g c =
    let P : ℕ → Type 0 = λ k. (bytes : List ℕ) × g.F.TableFolder.has_file c.args.folder.now k bytes in
    let first_1 : (k : ℕ) → k < 1 → P k = below_more P 0 (below_none P) (c.in_ok-bidi_class.bidi_class.items, c.in_ok-bidi_class.ensures.ok) in
    let first_2 : (k : ℕ) → k < 2 → P k = below_more P 1 first_1 (c.in_ok-bidi_brackets.bidi_brackets.items, c.in_ok-bidi_brackets.ensures.ok) in
    let first_3 : (k : ℕ) → k < 3 → P k = below_more P 2 first_2 (c.in_ok-bidi_mirroring.bidi_mirroring.items, c.in_ok-bidi_mirroring.ensures.ok) in
    let first_4 : (k : ℕ) → k < 4 → P k = below_more P 3 first_3 (c.in_ok-line_break.line_break.items, c.in_ok-line_break.ensures.ok) in
    unread _ _ c.args.version c.from_residual-in_err-general_category.result _ c.from_residual-in_err-general_category.ensures.1 4 (lit< tt) first_4 c.in_err-general_category.ensures.err

pub returns-in_err-east_asian_width-clause-err : goal.returns-in_err-east_asian_width-clause-err
returns-in_err-east_asian_width-clause-err g c =
    let P : ℕ → Type 0 = λ k. (bytes : List ℕ) × g.F.TableFolder.has_file c.args.folder.now k bytes in
    let first_1 : (k : ℕ) → k < 1 → P k = below_more P 0 (below_none P) (c.in_ok-bidi_class.bidi_class.items, c.in_ok-bidi_class.ensures.ok) in
    let first_2 : (k : ℕ) → k < 2 → P k = below_more P 1 first_1 (c.in_ok-bidi_brackets.bidi_brackets.items, c.in_ok-bidi_brackets.ensures.ok) in
    let first_3 : (k : ℕ) → k < 3 → P k = below_more P 2 first_2 (c.in_ok-bidi_mirroring.bidi_mirroring.items, c.in_ok-bidi_mirroring.ensures.ok) in
    let first_4 : (k : ℕ) → k < 4 → P k = below_more P 3 first_3 (c.in_ok-line_break.line_break.items, c.in_ok-line_break.ensures.ok) in
    let first_5 : (k : ℕ) → k < 5 → P k = below_more P 4 first_4 (c.in_ok-general_category.general_category.items, c.in_ok-general_category.ensures.ok) in
    unread _ _ c.args.version c.from_residual-in_err-east_asian_width.result _ c.from_residual-in_err-east_asian_width.ensures.1 5 (lit< tt) first_5 c.in_err-east_asian_width.ensures.err

pub returns-in_err-emoji_data-clause-err : goal.returns-in_err-emoji_data-clause-err
returns-in_err-emoji_data-clause-err g c =
    let P : ℕ → Type 0 = λ k. (bytes : List ℕ) × g.F.TableFolder.has_file c.args.folder.now k bytes in
    let first_1 : (k : ℕ) → k < 1 → P k = below_more P 0 (below_none P) (c.in_ok-bidi_class.bidi_class.items, c.in_ok-bidi_class.ensures.ok) in
    let first_2 : (k : ℕ) → k < 2 → P k = below_more P 1 first_1 (c.in_ok-bidi_brackets.bidi_brackets.items, c.in_ok-bidi_brackets.ensures.ok) in
    let first_3 : (k : ℕ) → k < 3 → P k = below_more P 2 first_2 (c.in_ok-bidi_mirroring.bidi_mirroring.items, c.in_ok-bidi_mirroring.ensures.ok) in
    let first_4 : (k : ℕ) → k < 4 → P k = below_more P 3 first_3 (c.in_ok-line_break.line_break.items, c.in_ok-line_break.ensures.ok) in
    let first_5 : (k : ℕ) → k < 5 → P k = below_more P 4 first_4 (c.in_ok-general_category.general_category.items, c.in_ok-general_category.ensures.ok) in
    let first_6 : (k : ℕ) → k < 6 → P k = below_more P 5 first_5 (c.in_ok-east_asian_width.east_asian_width.items, c.in_ok-east_asian_width.ensures.ok) in
    unread _ _ c.args.version c.from_residual-in_err-emoji_data.result _ c.from_residual-in_err-emoji_data.ensures.1 6 (lit< tt) first_6 c.in_err-emoji_data.ensures.err
