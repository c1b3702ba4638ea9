use Rattle.std.proofs.Common.{◌≡◌, ◌∙◌, List, ℕ, [], ◌∷◌, ◌++◌, arith, ap, append_assoc}
use Rattle.std.proofs.Common.{string_bytes}
use Rattle.std.proofs.lemmas.Grind.{common_steps}
use Rattle.std.proofs.lemmas.List.Elements.{All-cons}
use Rattle.std.proofs.lemmas.Str.{IsUtf8-string_bytes, encodes-append}
use lib.Utf8.{encode, encodes}
use Rattle.table_keys.proofs.PrefixEnds.{text_to_last, text_up_to}
use Rattle.table_keys.proofs.prefix.text_past.Goals as goal

pub returns-in-Some-char_after : goal.returns-in-Some-char_after
returns-in-Some-char_after c = λ list text.
    let l = c.loop-last.invariant in
    let before = IsUtf8-string_bytes c.pop.new.self in
    let next = c.in-Some-char_after.ensures in
    let all : string_bytes c.args.prefix.now ≡ encodes (before.0 ++ c.in-Some.last ∷ l.0) =
    grind (arith, common_steps, encodes-append, before.1.1, l.2, c.in-Some.ensures.bytes) in
    let end : string_bytes c.push.new.self ≡ encodes (before.0 ++ c.in-Some-char_after.next ∷ []) =
    grind (arith, common_steps, encodes-append, before.1.1, c.in_ok-push.ensures.bytes) in
    rw end (text_up_to (string_bytes c.args.prefix.now) before.0 l.0 c.in-Some.last
    c.in-Some-char_after.next all l.1 next.1 next.2 list text)

pub loop-last-preserved : goal.loop-last-preserved
loop-last-preserved c =
    let l = c.loop-last.invariant in
    let last : c.in-Some.last ≡ 1114111 = c.in_default-char_after.ensures in
    let all = l.2 ∙ ap (λ (xs : List ℕ). xs ++ encodes l.0) c.in-Some.ensures.bytes
    ∙ append_assoc (string_bytes c.pop.new.self) (encode c.in-Some.last) (encodes l.0) in
    (c.in-Some.last ∷ l.0, All-cons (λ x. x ≡ 1114111) c.in-Some.last l.0 last l.1, all)

pub returns : goal.returns
returns c =
    let l = c.loop-last.invariant in
    let none : string_bytes c.loop-last.text ≡ [] =
    grind (arith, common_steps, c.in_default.ensures) in
    text_to_last (string_bytes c.args.prefix.now) l.0
    (l.2 ∙ ap (λ (xs : List ℕ). xs ++ encodes l.0) none) l.1
