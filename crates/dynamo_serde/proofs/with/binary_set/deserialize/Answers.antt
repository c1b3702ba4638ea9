use Rattle.std.proofs.Common.{rules, ◌≡◌, [], ◌∷◌, ◌++◌}
use Rattle.serde.specs.Event.{seq_ends}
use Rattle.serde.specs.Steps.{Gives, Stays}
use Rattle.dynamo_serde.specs.Fetched.{ReadsBlob}
use Rattle.dynamo_serde.proofs.Fetching.{set_more}
use Rattle.dynamo_serde.proofs.with.binary_set.deserialize.Goals as goal

pub loop-preserved : goal.loop-preserved
loop-preserved g c =
    let pushed : c.push.new.self.items ≡ c.loop.blobs.items ++ c.in_ok-blob.blob ∷ [] = search rules in
    let comes : Stays g.F.Format.stays c.loop.from c.next_item.new.self = rw c.if-not-branch.false at c.in_ok-next_item.ensures in
    set_more (ReadsBlob g.F.Format.gives g.F.Format.stays) (λ b. b.items) c.loop.blobs.items c.push.new.self.items c.in_ok-blob.blob
    c.begin_seq.new.self c.loop.from c.byte_buf.new.self pushed c.loop.invariant (c.next_item.new.self, comes, c.in_ok-blob.ensures)

pub returns-then-not-branch : goal.returns-then-not-branch
returns-then-not-branch g c =
    let ends : Gives g.F.Format.gives c.loop.from seq_ends c.next_item.new.self = rw c.if-not-branch.true at c.in_ok-next_item.ensures in
    (c.begin_seq.new.self, c.loop.from, c.in_ok-begin_seq.ensures, c.loop.invariant, ends)
