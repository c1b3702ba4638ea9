use Rattle.std.proofs.Common.{◌≡◌, ◌++◌, ◌∷◌, [], true, false, string_bytes, encode_utf8}
use Rattle.std.proofs.Common.{sym, ap, ap₂, ◌∙◌, arith, rules, append_assoc}
use Rattle.std.proofs.lemmas.Str.{encode_ascii}
use Rattle.std.specs.Char.{is_ascii_uppercase, to_ascii_lowercase as lower}
use Rattle.std.specs.List.{flat_map}
use Rattle.std.specs.Str.Iter.{chars_rest}
use Rattle.derive_declarations.specs.Renamed.{snake, worded}
use Rattle.derive_declarations.proofs.Characters.{snake_char, word_capital, word_other, goes_on}
use Rattle.derive_declarations.proofs.rename.snake.Goals as goal
use Rattle.derive_declarations.proofs.rename.snake.Goals.{then-is_ascii_uppercase+in_ok-push-2, else-is_ascii_uppercase}

pub loop-c-init : goal.loop-c-init
loop-c-init c =
    let first = c.in-Some.first in
    let rest = chars_rest c.next.new.self in
    let whole : c.args.pascal.now ≡ encode_utf8 first ++ rest =
    sym c.chars-chars.ensures.rest ∙ c.in-Some.ensures.steps.0 in
    let pushed : string_bytes c.push.new.self ≡ encode_utf8 (lower first) =
    c.in_ok-push.ensures.bytes
    ∙ ap₂ (λ xs d. xs ++ encode_utf8 d) c.new-name.ensures.bytes c.to_ascii_lowercase.ensures.value in
    let left : chars_rest c.into_iter-c-iterator.result ≡ rest = search rules in
    ap₂ (λ xs ys. xs ++ flat_map worded ys) pushed left
    ∙ sym (snake_char first rest) ∙ ap snake (sym whole)

pub loop-c-preserved : goal.loop-c-preserved
loop-c-preserved c =
    let l = c.loop-c in
    let letter = c.in-Some-c.c in
    let step = ap (flat_map worded) c.in-Some-c.ensures.steps.0 in
    let before = c.if-is_ascii_uppercase.name in
    let lowered : string_bytes c.push-in-loop-c.new.self ≡ string_bytes before ++ encode_utf8 (lower letter) =
    c.in_ok-push-3.ensures.bytes
    ∙ ap (λ d. string_bytes before ++ encode_utf8 d) c.to_ascii_lowercase-in-loop-c.ensures.value in
    elim c.if-is_ascii_uppercase.branch [
      | then-is_ascii_uppercase+in_ok-push-2 w ↦
          let capital : is_ascii_uppercase letter ≡ true =
          sym c.is_ascii_uppercase.ensures.value ∙ w.if-is_ascii_uppercase.true in
          let marked : string_bytes before ≡ string_bytes l.name ++ (95 ∷ []) =
          ap (λ s. string_bytes s) w.name-is ∙ w.in_ok-push-2.ensures.bytes
          ∙ ap (λ xs. string_bytes l.name ++ xs) (encode_ascii 95 (omega arith)) in
          goes_on (string_bytes l.name) _ (95 ∷ encode_utf8 (lower letter)) _ _ _ l.invariant
          (step ∙ word_capital letter _ capital)
          (lowered ∙ ap (λ xs. xs ++ encode_utf8 (lower letter)) marked
          ∙ append_assoc (string_bytes l.name) (95 ∷ []) (encode_utf8 (lower letter)))
      | else-is_ascii_uppercase w ↦
          let other : is_ascii_uppercase letter ≡ false =
          sym c.is_ascii_uppercase.ensures.value ∙ w.if-is_ascii_uppercase.false in
          goes_on _ _ _ _ _ _ l.invariant (step ∙ word_other letter _ other)
          (lowered ∙ ap (λ s. string_bytes s ++ encode_utf8 (lower letter)) w.name-is)
    ]
