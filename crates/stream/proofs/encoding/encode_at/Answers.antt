use Rattle.std.proofs.Common.{List, ◌++◌, ◌+◌, ◌/◌, ◌%◌, ℕ, set, take, sym, ap, ◌∙◌, arith}
use Rattle.std.proofs.lemmas.List.{take-set-le}
use Rattle.std.proofs.lemmas.Str.{encode_ascii}
use Rattle.stream.proofs.EncodingLemmas.{put_one, put_two, put_three, put_four, two_bytes, three_bytes, four_bytes}
use Rattle.stream.proofs.encoding.encode_at.Goals as goal
use Rattle.stream.proofs.encoding.encode_at.Goals.{then-code-lt128, else-code-lt128+then-code-lt2048, else-code-lt128+else-code-lt2048+then-code-lt65536, else-code-lt128+else-code-lt2048+else-code-lt65536}

pub returns-clause-bytes : goal.returns-clause-bytes
returns-clause-bytes c =
    let bytes = c.args.buffer.now in
    let at = c.args.at in
    let code = c.args.c in
    let low : ℕ = 128 + code % 64 in
    let middle : ℕ = 128 + code / 64 % 64 in
    let high : ℕ = 128 + code / 4096 % 64 in
    let put_three_of = λ (first second third : ℕ). set (set (set bytes at first) (at + 1) second) (at + 2) third in
    let put = λ (f : ℕ × ℕ × ℕ × ℕ). take f.3 (set (put_three_of f.0 f.1 f.2) (at + 3) low) in
    let front = λ (more : List ℕ). take at bytes ++ more in
    elim c.if-code-lt128.branch [
      | then-code-lt128 w ↦
          ap put w.first-is
          ∙ take-set-le (at + 1) (put_three_of code low low) (at + 3) low (omega arith)
          ∙ take-set-le (at + 1) (set (set bytes at code) (at + 1) low) (at + 2) low (omega arith)
          ∙ put_one bytes at code low (omega (arith, c.requires))
          ∙ ap front (sym (encode_ascii code w.if-code-lt128.true))
      | else-code-lt128+then-code-lt2048 w ↦
          ap put w.first-is
          ∙ take-set-le (at + 2) (put_three_of (192 + code / 64) low low) (at + 3) low (omega arith)
          ∙ take-set-le (at + 2) (set (set bytes at (192 + code / 64)) (at + 1) low) (at + 2) low (omega arith)
          ∙ put_two bytes at (192 + code / 64) low (omega (arith, c.requires))
          ∙ ap front (sym (two_bytes code w.if-code-lt128.false w.if-code-lt2048.true))
      | else-code-lt128+else-code-lt2048+then-code-lt65536 w ↦
          ap put w.first-is
          ∙ take-set-le (at + 3) (put_three_of (224 + code / 4096) middle low) (at + 3) low (omega arith)
          ∙ put_three bytes at (224 + code / 4096) middle low (omega (arith, c.requires))
          ∙ ap front (sym (three_bytes code w.if-code-lt2048.false w.if-code-lt65536.true))
      | else-code-lt128+else-code-lt2048+else-code-lt65536 w ↦
          ap put w.first-is
          ∙ put_four bytes at (240 + code / 262144) high middle low (omega (arith, c.requires))
          ∙ ap front (sym (four_bytes code w.if-code-lt65536.false))
    ]
