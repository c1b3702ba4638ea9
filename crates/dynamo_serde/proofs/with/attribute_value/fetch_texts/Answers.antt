use Rattle.std.proofs.Common.{rules, ◌≡◌, [], ◌∷◌, ◌++◌, string_bytes}
use Rattle.serde.specs.Event.{seq_ends}
use Rattle.serde.specs.Steps.{Gives, Stays}
use Rattle.dynamo_serde.specs.Fetched.{ReadsText}
use Rattle.dynamo_serde.proofs.Fetching.{asked, set_more}
use Rattle.dynamo_serde.proofs.with.attribute_value.fetch_texts.Goals as goal

pub loop-preserved : goal.loop-preserved
loop-preserved g c =
    let pushed : c.push.new.self.items ≡ c.loop.texts.items ++ c.in_ok-string.field-0 ∷ [] = search rules in
    let comes : Stays g.F.Format.stays c.loop.from c.next_item.new.self = rw c.if-not-branch.false at c.in_ok-next_item.ensures in
    let kind = asked g.F.Format.gives g.F.Format.stays g.F.Format.picks _ c.in_ok-variant.field-0
    c.args.kind c.next_item.new.self c.variant.new.self c.if-branch-kind.false c.in_ok-variant.ensures in
    set_more (ReadsText g.F.Format.gives g.F.Format.stays g.F.Format.picks c.args.kind) string_bytes
    c.loop.texts.items c.push.new.self.items c.in_ok-string.field-0
    c.begin_seq.new.self c.loop.from c.string.new.self pushed c.loop.invariant (c.next_item.new.self, c.variant.new.self, comes, kind, c.in_ok-string.ensures)

pub returns-then-not-branch : goal.returns-then-not-branch
returns-then-not-branch g c =
    let ends : Gives g.F.Format.gives c.loop.from seq_ends c.next_item.new.self = rw c.if-not-branch.true at c.in_ok-next_item.ensures in
    (c.begin_seq.new.self, c.loop.from, c.in_ok-begin_seq.ensures, c.loop.invariant, ends)
