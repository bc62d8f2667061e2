use Rattle.std.proofs.Common.{◌∙◌, None, Some, ap, refl}
use Rattle.regex.specs.Strings.{match_span, matcher_pattern, regex_pattern}
use Rattle.terminal.specs.Prefixes.{span_len}
use Rattle.terminal.proofs.PrefixLemmas.{match_is}
use Rattle.terminal.proofs.prefix.match_len.Goals as goal

pub returns-in-Some : goal.returns-in-Some
returns-in-Some c =
    match_is (regex_pattern c.args.regex.now) (matcher_pattern c.in_ok-matcher.matcher) c.args.text.now c.as_str.result.now (Some (match_span c.in-Some.found))
    c.span_len.result c.in_ok-matcher.ensures.pattern (c.as_str.ensures.value ∙ c.in_ok-string.ensures) c.in-Some.ensures.found
    (c.span_len.ensures ∙ ap (λ bytes. span_len bytes (match_span c.in-Some.found)) c.in-Some.ensures.within)

pub returns : goal.returns
returns c =
    match_is (regex_pattern c.args.regex.now) (matcher_pattern c.in_ok-matcher.matcher) c.args.text.now c.as_str.result.now None
    0 c.in_ok-matcher.ensures.pattern (c.as_str.ensures.value ∙ c.in_ok-string.ensures) c.in-None.ensures.found refl
