use Rattle.std.proofs.Common.{rules, arith, suc, inl, inr, refl, sym, subst, ◌≡◌, ◌≢◌, ◌∙◌, [], true}
use Rattle.exports.specs.Lines.{GivesWithin, IsWithin, is_blank}
use Rattle.exports.proofs.Taken.{at_end}
use Rattle.exports.proofs.Texts.{no_items, some_items}
use Rattle.exports.proofs.lines.Lines.next_text.Goals as goal

pub returns-then-is_empty-clause-text : goal.returns-then-is_empty-clause-text
returns-then-is_empty-clause-text g c =
    let i = c.loop-self.invariant in
    let (line, takes, found) = c.in-Ok-Some.ensures.takes in
    let (same, within) = subst (GivesWithin c.loop-self.self.limit line) c.in-Ok-Some.field-0-is found in
    let none : c.in-Ok-Some.text.len ≡ 0 = search (rules, c.if-is_empty.true, c.is_empty.ensures) in
    let end = at_end _ _ line takes (sym same ∙ no_items c.in-Ok-Some.text none) in
    inr (i.0, g.R.Read.remaining c.loop-self.self.reader, i.4, c.read_text.ensures.number ∙ i.1, inl (refl, end))

pub loop-self-preserved : goal.loop-self-preserved
loop-self-preserved g c =
    let i = c.loop-self.invariant in
    let (line, takes, found) = c.in-Ok-Some.ensures.takes in
    let (same, within) = subst (GivesWithin c.loop-self.self.limit line) c.in-Ok-Some.field-0-is found in
    let some = some_items c.in-Ok-Some.text (search (rules, c.if-is_empty.false, c.is_empty.ensures)) in
    let blank : is_blank c.in-Ok-Some.text.items ≡ true = search (rules, c.if-not-is_blank.false, c.is_blank.ensures) in
    let e = c.read_text.ensures.number ∙ i.1 in (
      suc i.0,
      omega (arith, e),
      c.read_text.ensures.ended ∙ i.2,
      c.read_text.ensures.limit ∙ i.3,
      (
        g.R.Read.remaining c.loop-self.self.reader,
        line,
        i.4,
        takes,
        subst (λ limit. IsWithin limit line) i.3 within,
        subst (λ l. l ≢ []) same some,
        subst (λ l. is_blank l ≡ true) same blank,
      ),
    )
