use Rattle.std.proofs.Common.{sym, ◌∙◌}
use Rattle.dynamo_de.proofs.Attributes.{kept}
use Rattle.dynamo_de.proofs.SetMembers.{set_more}
use Rattle.dynamo_de.proofs.impls.sets.from_members.Goals as goal

pub loop-set-preserved : goal.loop-set-preserved
loop-set-preserved g c =
    let left = g.A.SeqAccess.left in
    let taken = rw c.in-Some.is at c.in_ok-member.ensures in
    set_more g.M.FromMembers.has g.M.FromMembers.eq g.T.Deserialize.reads g.A.Error.Error.fault (left c.args.seq) c.loop-set.set (left c.loop-set.seq) (left c.next_element.new.self) c.loop-set.invariant
    c.put.new.self c.in-Some.member taken (kept c.put.result (sym c.is_err.ensures.value ∙ c.if-is_err.false) c.put.ensures)
