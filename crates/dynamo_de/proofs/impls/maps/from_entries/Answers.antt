use Rattle.std.proofs.Common.{sym, ◌∙◌}
use Rattle.std.proofs.lemmas.Result.{err_from_is_err_and}
use Rattle.dynamo_de.proofs.Attributes.{kept}
use Rattle.dynamo_de.proofs.Pairs.{map_more, map_value_fails}
use Rattle.dynamo_de.proofs.impls.maps.from_entries.Goals as goal

pub returns-in_err-value : goal.returns-in_err-value
returns-in_err-value g c =
    let entries = g.R.Reader.entries in
    let p = err_from_is_err_and c.from_residual-in_err-value.result c.from_residual-in_err-value.ensures.1 in
    rw (p.1, p.2) (map_value_fails g.M.FromEntries.get g.M.FromEntries.eq g.K.Deserialize.reads g.V.Deserialize.reads g.R.Reader.source (entries c.args.entries) c.loop-key.map (entries c.loop-key.entries) (entries c.next_entry.new.rest) c.loop-key.invariant
    g.R.Error.Error.fault (c.in-Some.key, c.in-Some.value) c.in-Some.ensures c.in_err-value.field-0.0 c.in_ok-key.key c.in_ok-key.ensures c.in_err-value.ensures)

pub loop-key-preserved : goal.loop-key-preserved
loop-key-preserved g c =
    let entries = g.R.Reader.entries in
    map_more g.M.FromEntries.get g.M.FromEntries.eq g.K.Deserialize.reads g.V.Deserialize.reads g.R.Reader.source (entries c.args.entries) c.loop-key.map (entries c.loop-key.entries) (entries c.next_entry.new.rest) c.loop-key.invariant
    c.put.new.self (c.in-Some.key, c.in-Some.value) c.in_ok-key.key c.in_ok-value.value c.in-Some.ensures c.in_ok-key.ensures c.in_ok-value.ensures (kept c.put.result (sym c.is_err.ensures.value ∙ c.if-is_err.false) c.put.ensures)
