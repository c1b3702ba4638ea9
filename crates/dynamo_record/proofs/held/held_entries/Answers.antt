use Rattle.std.proofs.Common.{sym, ap, ◌∙◌}
use Rattle.dynamo_record.proofs.Common.{bytes_eq}
use Rattle.dynamo_record.proofs.HeldEntries.{named_more, other_more}
use Rattle.dynamo_record.proofs.held.held_entries.Goals.{then-eq, else-eq}
use Rattle.dynamo_record.proofs.held.held_entries.Goals as goal

pub loop-key-preserved : goal.loop-key-preserved
loop-key-preserved g c =
    let l = c.loop-key in
    let source = g.D.Reader.source in
    let left = g.D.Reader.entries l.entries in
    let new = g.D.Reader.entries c.next_entry.new.rest in
    let all = g.D.Reader.entries c.args.entries in
    let t = c.args.tag.now in
    let name = c.in_ok-name.name in
    let key = ap (bytes_eq t) (sym c.as_str.ensures.value) ∙ sym c.eq.ensures in
    rw c.in-Ok.ensures.items (elim c.if-eq.branch [
      | then-eq w ↦ named_more source t new all l.held.items l.last c.if-eq.last (c.in-Some.key, c.in-Some.value) name c.in_ok-name.ensures left l.invariant c.in-Some.ensures (key ∙ w.if-eq.true) w.len.result w.last-is (w.len.ensures ∙ l.held.ok.0)
      | else-eq w ↦ other_more source t new all l.held.items l.last c.if-eq.last (c.in-Some.key, c.in-Some.value) name c.in_ok-name.ensures left l.invariant c.in-Some.ensures (key ∙ w.if-eq.false) w.last-is
    ])
