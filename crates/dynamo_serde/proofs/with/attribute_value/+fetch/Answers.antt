use Rattle.std.proofs.Common.{rules, ◌≡◌, ◌∙◌, [], ◌∷◌, ◌++◌, map, Some, string_bytes, sym, ap}
use Rattle.std.specs.HashMap.{Updates}
use Rattle.std.specs.String.{string_eq}
use Rattle.serde.specs.Event.{seq_ends, map_ends, key_begins}
use Rattle.serde.specs.Steps.{Gives, Stays}
use Rattle.dynamo_value.specs.Av as av
use Rattle.dynamo_value.specs.declared.attribute_value.AttributeValue.{the_lemmas}
use Rattle.dynamo_value.proofs.Views.{view_list, view_map, view_strings, view_numbers, view_blobs}
use Rattle.dynamo_serde.proofs.Fetching.{asked, unless_err, list_more, list_all, map_more, map_all}
use Rattle.dynamo_serde.proofs.with.attribute_value.+fetch.Goals as goal

pub fetch-returns-in_ok-string-in-0 : goal.fetch-returns-in_ok-string-in-0
fetch-returns-in_ok-string-in-0 g t c =
    let kind = asked g.F.Format.gives g.F.Format.stays g.F.Format.picks _ c.in_ok-variant.field-0 0
    c.args.from.now c.variant.new.self c.in-0.is c.in_ok-variant.ensures in
    (av.N (string_bytes c.in_ok-string-in-0.field-0), search (rules, the_lemmas), (c.variant.new.self, kind, c.in_ok-string-in-0.ensures))

pub fetch-returns-in_ok-string-in-1 : goal.fetch-returns-in_ok-string-in-1
fetch-returns-in_ok-string-in-1 g t c =
    let kind = asked g.F.Format.gives g.F.Format.stays g.F.Format.picks _ c.in_ok-variant.field-0 1
    c.args.from.now c.variant.new.self c.in-1.is c.in_ok-variant.ensures in
    (av.S (string_bytes c.in_ok-string-in-1.field-0), search (rules, the_lemmas), (c.variant.new.self, kind, c.in_ok-string-in-1.ensures))

pub fetch-returns-in_ok-bool-in-2 : goal.fetch-returns-in_ok-bool-in-2
fetch-returns-in_ok-bool-in-2 g t c =
    let kind = asked g.F.Format.gives g.F.Format.stays g.F.Format.picks _ c.in_ok-variant.field-0 2
    c.args.from.now c.variant.new.self c.in-2.is c.in_ok-variant.ensures in
    (av.Boolean c.in_ok-bool-in-2.field-0, search (rules, the_lemmas), (c.variant.new.self, kind, c.in_ok-bool-in-2.ensures))

pub fetch-returns-in_ok-byte_buf-in-3 : goal.fetch-returns-in_ok-byte_buf-in-3
fetch-returns-in_ok-byte_buf-in-3 g t c =
    let kind = asked g.F.Format.gives g.F.Format.stays g.F.Format.picks _ c.in_ok-variant.field-0 3
    c.args.from.now c.variant.new.self c.in-3.is c.in_ok-variant.ensures in
    (av.B c.in_ok-byte_buf-in-3.field-0.items, search (rules, the_lemmas), (c.variant.new.self, kind, c.in_ok-byte_buf-in-3.ensures))

pub fetch-returns-in_ok-bool-in-4 : goal.fetch-returns-in_ok-bool-in-4
fetch-returns-in_ok-bool-in-4 g t c =
    let kind = asked g.F.Format.gives g.F.Format.stays g.F.Format.picks _ c.in_ok-variant.field-0 4
    c.args.from.now c.variant.new.self c.in-4.is c.in_ok-variant.ensures in
    (av.Null c.in_ok-bool-in-4.field-0, search (rules, the_lemmas), (c.variant.new.self, kind, c.in_ok-bool-in-4.ensures))

pub fetch-returns-in_ok-fetch_map-in-5 : goal.fetch-returns-in_ok-fetch_map-in-5
fetch-returns-in_ok-fetch_map-in-5 g t c =
    let kind = asked g.F.Format.gives g.F.Format.stays g.F.Format.picks _ c.in_ok-variant.field-0 5
    c.args.from.now c.variant.new.self c.in-5.is c.in_ok-variant.ensures in
    let h = c.in_ok-fetch_map-in-5.ensures in
    (av.M h.0, ap av.M h.1 ∙ sym (view_map c.in_ok-fetch_map-in-5.field-0), (c.variant.new.self, kind, h.2))

pub fetch-returns-in_ok-fetch_list-in-6 : goal.fetch-returns-in_ok-fetch_list-in-6
fetch-returns-in_ok-fetch_list-in-6 g t c =
    let kind = asked g.F.Format.gives g.F.Format.stays g.F.Format.picks _ c.in_ok-variant.field-0 6
    c.args.from.now c.variant.new.self c.in-6.is c.in_ok-variant.ensures in
    let h = c.in_ok-fetch_list-in-6.ensures in
    (av.L h.0, ap av.L h.1 ∙ sym (view_list c.in_ok-fetch_list-in-6.field-0), (c.variant.new.self, kind, h.2))

pub fetch-returns-in_ok-fetch_texts-in-7 : goal.fetch-returns-in_ok-fetch_texts-in-7
fetch-returns-in_ok-fetch_texts-in-7 g t c =
    let kind = asked g.F.Format.gives g.F.Format.stays g.F.Format.picks _ c.in_ok-variant.field-0 7
    c.args.from.now c.variant.new.self c.in-7.is c.in_ok-variant.ensures in
    let read = c.in_ok-fetch_texts-in-7.field-0 in
    (av.Ss (map string_bytes read.items), sym (view_strings read), (c.variant.new.self, kind, c.in_ok-fetch_texts-in-7.ensures))

pub fetch-returns-in_ok-fetch_texts-in-8 : goal.fetch-returns-in_ok-fetch_texts-in-8
fetch-returns-in_ok-fetch_texts-in-8 g t c =
    let kind = asked g.F.Format.gives g.F.Format.stays g.F.Format.picks _ c.in_ok-variant.field-0 8
    c.args.from.now c.variant.new.self c.in-8.is c.in_ok-variant.ensures in
    let read = c.in_ok-fetch_texts-in-8.field-0 in
    (av.Ns (map string_bytes read.items), sym (view_numbers read), (c.variant.new.self, kind, c.in_ok-fetch_texts-in-8.ensures))

pub fetch-returns-in_ok-deserialize-in-9 : goal.fetch-returns-in_ok-deserialize-in-9
fetch-returns-in_ok-deserialize-in-9 g t c =
    let kind = asked g.F.Format.gives g.F.Format.stays g.F.Format.picks _ c.in_ok-variant.field-0 9
    c.args.from.now c.variant.new.self c.in-9.is c.in_ok-variant.ensures in
    let read = c.in_ok-deserialize-in-9.field-0 in
    (av.Bs (map (λ b. b.items) read.items), sym (view_blobs read), (c.variant.new.self, kind, c.in_ok-deserialize-in-9.ensures))

pub fetch_list-loop-preserved : goal.fetch_list-loop-preserved
fetch_list-loop-preserved g t c =
    let pushed : c.push.new.self.items ≡ c.loop.items.items ++ c.in_ok-fetch.field-0 ∷ [] = search rules in
    let comes : Stays g.F.Format.stays c.loop.from c.next_item.new.self = rw c.if-not-branch.false at c.in_ok-next_item.ensures in
    list_more g.F.Format.gives g.F.Format.stays g.F.Format.picks c.loop.items.items c.push.new.self.items c.in_ok-fetch.field-0
    c.begin_seq.new.self c.loop.from c.next_item.new.self c.fetch.new.from pushed c.loop.invariant comes c.in_ok-fetch.ensures

pub fetch_list-returns-then-not-branch : goal.fetch_list-returns-then-not-branch
fetch_list-returns-then-not-branch g t c =
    let ends : Gives g.F.Format.gives c.loop.from seq_ends c.next_item.new.self = rw c.if-not-branch.true at c.in_ok-next_item.ensures in
    list_all g.F.Format.gives g.F.Format.stays g.F.Format.picks c.loop.items.items c.args.from.now
    c.begin_seq.new.self c.loop.from c.next_item.new.self c.in_ok-begin_seq.ensures c.loop.invariant ends

pub fetch_map-loop-preserved : goal.fetch_map-loop-preserved
fetch_map-loop-preserved g t c =
    let updates = unless_err c.insert.result (Updates string_eq c.loop.members c.insert.new.self c.in_ok-key.key (Some c.in_ok-value.value))
    (sym c.is_err.ensures.value ∙ c.if-is_err.false) c.insert.ensures.updates in
    let comes : Gives g.F.Format.gives c.loop.from key_begins c.next_entry.new.self = rw c.if-not-branch.false at c.in_ok-next_entry.ensures in
    map_more g.F.Format.gives g.F.Format.stays g.F.Format.picks c.loop.members c.insert.new.self c.in_ok-key.key c.in_ok-value.value
    c.begin_map.new.self c.loop.from c.next_entry.new.self c.string.new.self c.fetch.new.from updates
    c.loop.invariant comes c.in_ok-key.ensures c.in_ok-value.ensures

pub fetch_map-returns-then-not-branch : goal.fetch_map-returns-then-not-branch
fetch_map-returns-then-not-branch g t c =
    let ends : Gives g.F.Format.gives c.loop.from map_ends c.next_entry.new.self = rw c.if-not-branch.true at c.in_ok-next_entry.ensures in
    map_all g.F.Format.gives g.F.Format.stays g.F.Format.picks c.loop.members.entries c.args.from.now
    c.begin_map.new.self c.loop.from c.next_entry.new.self c.in_ok-begin_map.ensures c.loop.invariant ends
