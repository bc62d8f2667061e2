use Rattle.std.proofs.Common.{refl, sym, nat_lt, ◌∙◌}
use Rattle.stream.proofs.ShortLemmas.{all_below_from_list_all, none_from}
use Rattle.stream.proofs.short.is_short.Goals as goal

pub returns : goal.returns
returns c = λ none. all_below_from_list_all 224 c.args.bytes (sym (none_from (λ x. nat_lt x 224) 224 c.args.bytes c.fits-bytes.0 c.fits-bytes.1 refl) ∙ none)
