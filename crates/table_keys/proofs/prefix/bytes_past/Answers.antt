use Rattle.std.proofs.Common.{◌≡◌, ◌∙◌, List, ℕ, [], ◌++◌, arith, ap}
use Rattle.std.proofs.lemmas.Grind.{common_steps}
use Rattle.table_keys.proofs.PrefixEnds.{bytes_to_last, bytes_up_to}
use Rattle.table_keys.proofs.prefix.bytes_past.Goals as goal

pub returns-then-last-lt255 : goal.returns-then-last-lt255
returns-then-last-lt255 c = λ list bytes.
    let l = c.loop-last.invariant in
    let all = l.2 ∙ ap (λ (xs : List ℕ). xs ++ l.0) c.in-Some.ensures.items in
    rw c.in_ok-push.ensures.items
    (bytes_up_to c.args.prefix.now.items c.pop.new.self.items l.0 c.in-Some.last all l.1 c.if-last-lt255.true list bytes)

pub returns : goal.returns
returns c =
    let l = c.loop-last.invariant in
    let none : c.loop-last.bytes.items ≡ [] = grind (arith, common_steps, c.in_default.ensures) in
    bytes_to_last c.args.prefix.now.items l.0 (l.2 ∙ ap (λ (xs : List ℕ). xs ++ l.0) none) l.1
