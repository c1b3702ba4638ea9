use Rattle.std.proofs.Common.{◌≡◌, ◌∙◌, ap, sym, subst, ℕ, IsUtf8, take, ◌++◌}
use lib.Seq.{take-append_seam}
use Rattle.std.proofs.lemmas.Str.{IsUtf8-append}
use Rattle.json.specs.Print.{print}
use Rattle.dynamo_json.proofs.json_text.Printer.into_text.Goals as goal
use Rattle.dynamo_json.proofs.json_text.Printer.into_text.Goals.{then-not-whole, else-not-whole}

pub from_utf8_unchecked-requires : goal.from_utf8_unchecked-requires
from_utf8_unchecked-requires c =
    let old = c.args.self.out.before in
    let new = print c.args.self.out.tokens in
    elim c.if-not-whole.branch [
      | then-not-whole w ↦
          let left : c.if-not-whole.bytes.items ≡ old = ap (λ v. v.items) w.bytes-is ∙ w.truncate.ensures.items ∙ ap (take c.args.before) c.into_inner-bytes.ensures.items ∙ ap (λ (n : ℕ). take n (old ++ new)) c.requires.len ∙ take-append_seam old new in
          subst IsUtf8 (sym left) c.requires.utf8
      | else-not-whole w ↦
          let all : c.if-not-whole.bytes.items ≡ old ++ new = ap (λ v. v.items) w.bytes-is ∙ c.into_inner-bytes.ensures.items in
          subst IsUtf8 (sym all) (IsUtf8-append old new c.requires.utf8 c.into_inner-bytes.ensures.utf8)
    ]
