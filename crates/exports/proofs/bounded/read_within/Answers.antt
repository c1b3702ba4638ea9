use Rattle.std.proofs.Common.{rules, ◌≢◌, All, sym, subst}
use Rattle.std.specs.Io.KnownBytes.{Consumes}
use Rattle.std.proofs.KnownBytes.{Consumes-nil, Consumes-trans}
use Rattle.std.proofs.lemmas.List.Elements.{All-append}
use Rattle.exports.proofs.Taken.{gives_on, passes_long}
use Rattle.exports.proofs.bounded.read_within.Goals as goal

pub loop-init : goal.loop-init
loop-init g c =
    let is = sym c.new-text.ensures.items in
    (subst (Consumes _ _) is (Consumes-nil _), search rules)

pub returns-in-End : goal.returns-in-End
returns-in-End g c =
    let i = c.loop.invariant in
    let same = c.take_part.ensures.end (search rules) in
    gives_on _ _ _ _ _ c.loop.text.items i.0 i.1 same.1 c.read_rest.result (rw same.0 at c.read_rest.ensures)

pub returns-in-TooMuch : goal.returns-in-TooMuch
returns-in-TooMuch g c =
    let i = c.loop.invariant in
    let (more, taken, none, over) = c.take_part.ensures.too_much (search rules) in
    passes_long _ _ _ _ _ c.loop.text.items more i.0 i.1 taken none over (search rules)

pub loop-preserved : goal.loop-preserved
loop-preserved g c =
    let i = c.loop.invariant in
    let (part, is, taken, none) = c.take_part.ensures.part (search rules) in
    let unended = All-append (λ x. x ≢ 10) c.loop.text.items part i.1 none in
    (subst (Consumes _ _) (sym is) (Consumes-trans _ _ _ _ _ i.0 taken), subst (All (λ x. x ≢ 10)) (sym is) unended)
