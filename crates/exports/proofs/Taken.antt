-- A line that is taken in parts.
use Rattle.std.proofs.Common.{◌≡◌, ◌≢◌, ◌≤◌, ◌<◌, ◌+◌, ◌-◌, ◌++◌, ◌∙◌, ℕ, List, [], ◌∷◌, All, Bool, true, false, cond, eqb}
use Rattle.std.proofs.Common.{Option, None, Some, Result, Ok, Err, IfOk, length, length-append, length-take-le, take}
use Rattle.std.proofs.Common.{refl, sym, ap, subst, rules, arith, append-nil, append_assoc}
use Rattle.std.specs.declared.vec.Vec.{Vec}
use Rattle.std.specs.declared.alloc.Global.{Global}
use Rattle.std.specs.Io.KnownBytes.{Consumes, IsAtEnd, Keeps}
use Rattle.std.specs.Io.BufRead.{take_through, drop_through, ends_with_byte, DropsThrough}
use Rattle.std.proofs.KnownBytes.{Consumes-trans, Consumes-kept, Keeps-refl}
use Rattle.std.proofs.BufReadLemmas.{take_through-append, take_through-nil}
use Rattle.std.proofs.lemmas.List.Elements.{All-append}
use Rattle.exports.specs.Lines.{ReadsRest, ReadsWithin, TakesLine, TakesLong, line_length}

-- a line of no bytes is at the end
pub at_end : (old new : Option (List ℕ)) (line : List ℕ) → TakesLine old new line → line ≡ [] → IsAtEnd old
at_end None new line takes none = tt
at_end (Some xs) new line takes none = take_through-nil 10 xs (ap length (sym takes.1 ∙ none))

-- a part without a line feed, and the rest of the line
pub takes_on : (a b c d : Option (List ℕ)) (part rest : List ℕ) → Consumes a b part → All (λ x. x ≢ 10) part
    → Keeps b c → TakesLine c d rest → TakesLine a d (part ++ rest)
takes_on None b c d part rest taken none keeps takes = (tt, tt)
takes_on (Some xs) None c d part rest taken none keeps takes = absurd taken
takes_on (Some xs) (Some ys) None d part rest taken none keeps takes = absurd keeps
takes_on (Some xs) (Some ys) (Some zs) d part rest taken none keeps takes = (
  Consumes-trans (Some xs) (Some zs) d part rest (Consumes-kept (Some xs) (Some ys) (Some zs) part taken keeps) takes.0,
  ap (λ l. part ++ l) (takes.1 ∙ ap (take_through 10) keeps) ∙ sym (take_through-append 10 part ys none) ∙ ap (take_through 10) (sym taken),
)

pub gives_on : {E : Type 0} (limit : ℕ) (a b c d : Option (List ℕ)) (part : List ℕ) → Consumes a b part → All (λ x. x ≢ 10) part → Keeps b c
    → (r : Result (Option (Vec ℕ Global)) E) → IfOk r (ReadsRest limit part c d) → IfOk r (ReadsWithin limit a d)
gives_on limit a b c d part taken none keeps (Ok found) (rest, takes, gives) = (part ++ rest, takes_on a b c d part rest taken none keeps takes, gives)
gives_on limit a b c d part taken none keeps (Err e) h = tt

-- what is taken of a line and what is dropped of it make it whole
parts : (xs : List ℕ) → xs ≡ take_through 10 xs ++ drop_through 10 xs
parts [] = refl
parts (x ∷ xs) = at (eqb x 10) (parts xs)
  where
    at : (b : Bool) → xs ≡ take_through 10 xs ++ drop_through 10 xs → x ∷ xs ≡ cond b (x ∷ []) (x ∷ take_through 10 xs) ++ cond b xs (drop_through 10 xs)
    at true e = refl
    at false e = ap (λ l. x ∷ l) e

-- what is skipped is the rest of a line
skipped : (old new : Option (List ℕ)) → DropsThrough old new 10 → (rest : List ℕ) × TakesLine old new rest
skipped None new drops = ([], (tt, tt))
skipped (Some xs) new drops = (take_through 10 xs, (subst (λ o. Consumes (Some xs) o (take_through 10 xs)) (sym drops) (parts xs), refl))

-- the line feed of a line lies after a part that has none
no_shorter : (part rest : List ℕ) → All (λ x. x ≢ 10) part → length part ≤ line_length (part ++ rest)
no_shorter part [] none = subst (λ l. length part ≤ line_length l) (sym (append-nil part)) (at (ends_with_byte 10 part) refl)
  where
    at : (b : Bool) → ends_with_byte 10 part ≡ b → length part ≤ length (cond b (take (length part - 1) part) part)
    at false e = omega arith
    at true e = absurd (none (length part - 1) 0 (search (rules, arith, e)) (search (rules, e)))
no_shorter part (y ∷ ys) none = at (ends_with_byte 10 (part ++ y ∷ ys))
  where
    at : (b : Bool) → length part ≤ length (cond b (take (length (part ++ y ∷ ys) - 1) (part ++ y ∷ ys)) (part ++ y ∷ ys))
    at false = omega (arith, length-append part (y ∷ ys))
    at true = omega (arith, length-append part (y ∷ ys), length-take-le (length (part ++ y ∷ ys) - 1) (part ++ y ∷ ys) (omega arith))

-- more bytes without a line feed than a line may have, and what is skipped of it
pub passes_long : (limit : ℕ) (a b c d : Option (List ℕ)) (part more : List ℕ) → Consumes a b part → All (λ x. x ≢ 10) part
    → Consumes b c more → All (λ x. x ≢ 10) more → limit < length part + length more → DropsThrough c d 10
    → TakesLong limit a d
passes_long limit a b c d part more first none second none' over drops =
    let (rest, takes) = skipped c d drops in
    let long = no_shorter (part ++ more) rest (All-append (λ x. x ≢ 10) part more none none') in (
      part ++ (more ++ rest),
      takes_on a b b d part (more ++ rest) first none (Keeps-refl b) (takes_on b c c d more rest second none' (Keeps-refl c) takes),
      subst (λ l. limit < line_length l) (append_assoc part more rest) (omega (arith, long, length-append part more)),
    )
