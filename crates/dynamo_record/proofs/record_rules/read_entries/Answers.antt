use Rattle.std.proofs.Common.{List, ℕ, [], Bor, map}
use Rattle.dynamo_record.proofs.Common.{by_name, missed_name, listed, FromPartsByRules, struct_left}
use Rattle.dynamo_record.proofs.ByRules.{starts, entry_read, entry_fails, ends, whole}
use Rattle.dynamo_record.proofs.Closing.{all_made, one_missed}
use Rattle.dynamo_record.proofs.record_rules.read_entries.Goals as goal

pub loop-key-init : goal.loop-key-init
loop-key-init g c =
    let a = listed g.R.Record.about g.R.Fields.FieldList.about in
    starts g.R.RecordRules.rules a c.requires g.R.Fields.FieldList.holds (g.D.Reader.entries c.args.entries) c.unread-slots.result (c.unread-slots.ensures [])

pub returns-in-Err : goal.returns-in-Err
returns-in-Err g c =
    let a = listed g.R.Record.about g.R.Fields.FieldList.about in
    let entries = g.D.Reader.entries in
    entry_fails g.R.RecordRules.rules a c.requires g.R.Fields.FieldList.holds (entries c.args.entries) g.D.Reader.source g.D.Error.Error.fault (entries c.loop-key.entries) (entries c.next_entry.new.rest) c.loop-key.slots c.loop-key.invariant
    (c.in-Some.key, c.in-Some.value) c.in-Some.ensures c.read_entry.new.slots c.in-Err.error c.in-Err.ensures

pub loop-key-preserved : goal.loop-key-preserved
loop-key-preserved g c =
    let a = listed g.R.Record.about g.R.Fields.FieldList.about in
    let entries = g.D.Reader.entries in
    entry_read g.R.RecordRules.rules a c.requires g.R.Fields.FieldList.holds (entries c.args.entries) g.D.Reader.source g.D.Error.Error.fault (entries c.loop-key.entries) (entries c.next_entry.new.rest) c.loop-key.slots c.loop-key.invariant
    (c.in-Some.key, c.in-Some.value) c.in-Some.ensures c.read_entry.new.slots c.in_default-read_entry.ensures

pub returns-in-Ok : goal.returns-in-Ok
returns-in-Ok g c =
    let rules = g.R.RecordRules.rules in
    let a = listed g.R.Record.about g.R.Fields.FieldList.about in
    let entries = g.D.Reader.entries in
    let holds = g.R.Fields.FieldList.holds in
    let last = ends rules a c.requires holds (entries c.args.entries) g.D.Reader.source g.D.Error.Error.fault (entries c.loop-key.entries) (entries c.next_entry.new.rest) c.loop-key.slots c.loop-key.invariant c.in_default.ensures in
    all_made a c.requires holds c.loop-key.slots (struct_left rules a [] (entries c.args.entries)) (FromPartsByRules rules a (by_name (entries c.args.entries))) (whole rules a c.requires (entries c.args.entries)) last
    g.D.Error.Error.fault (Bor (List (Bor (List ℕ)))) (λ os. missed_name (map (λ n. n.now) c.names.result.now) (a.list.shapes []) (a.list.defaults []) os) c.in-Ok.completed.0 c.in-Ok.completed.1 c.make.result c.make.ensures (λ os h. c.in-Ok.ensures [] [] os [] h)

pub returns : goal.returns
returns g c =
    let rules = g.R.RecordRules.rules in
    let a = listed g.R.Record.about g.R.Fields.FieldList.about in
    let entries = g.D.Reader.entries in
    let holds = g.R.Fields.FieldList.holds in
    let last = ends rules a c.requires holds (entries c.args.entries) g.D.Reader.source g.D.Error.Error.fault (entries c.loop-key.entries) (entries c.next_entry.new.rest) c.loop-key.slots c.loop-key.invariant c.in_default.ensures in
    one_missed a c.requires holds c.loop-key.slots (struct_left rules a [] (entries c.args.entries)) (FromPartsByRules rules a (by_name (entries c.args.entries))) (whole rules a c.requires (entries c.args.entries)) last
    g.D.Error.Error.fault (Bor (List (Bor (List ℕ)))) (λ os. missed_name (map (λ n. n.now) c.names.result.now) (a.list.shapes []) (a.list.defaults []) os) c.in-Err-complete.error (λ os h. c.in-Err-complete.ensures [] [] os [] h)
