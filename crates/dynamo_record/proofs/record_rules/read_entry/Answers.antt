use Rattle.std.proofs.Common.{◌≡◌, false, sym, ap, ◌∙◌, inl, inr}
use Rattle.dynamo_record.proofs.Common.{err_from_is_err_and, own_name, is_refused, place_of, listed}
use Rattle.dynamo_record.proofs.Common.{record_fields, names_apart}
use Rattle.dynamo_record.proofs.ByRules.{at_place, entered, refused_entry}
use Rattle.dynamo_record.proofs.OneEntry.{key_read}
use Rattle.dynamo_record.proofs.Renaming.{own_as, place_as}
use Rattle.dynamo_record.proofs.record_rules.read_entry.Goals as goal

pub returns-in_err-admit : goal.returns-in_err-admit
returns-in_err-admit g c = λ e before is h.
    let rules = g.R.RecordRules.rules in
    let a = listed g.R.Record.about g.R.Fields.FieldList.about in
    let key : c.as_str.result.now ≡ e.0 = c.as_str.ensures.value ∙ key_read (g.D.Reader.source c.args.key) e.0 c.in_ok-name.name is.0 c.in_ok-name.ensures in
    let own : c.own_name-own.result.now ≡ own_name rules.aliases e.0 = own_as c.own_name-own.result.now c.as_str.result.now e.0 _ rules.aliases c.own_name-own.ensures c.aliases.ensures key in
    let place : c.place_of-place.result ≡ place_of 0 a.names c.own_name-own.result.now = place_as c.place_of-place.result c.own_name-own.result.now _ a.names c.place_of-place.ensures c.names-names.ensures in
    let p = err_from_is_err_and c.from_residual-in_err-admit.result c.from_residual-in_err-admit.ensures.1 in
    rw (p.1, p.2) (elim (c.in_err-admit.ensures before place h) [
      | inl lacks ↦ inl lacks
      | inr told ↦ inr (refused_entry rules (record_fields a) g.R.Fields.FieldList.holds (names_apart a c.requires) _ e before _ (ap (is_refused rules.denies (record_fields a) before) (sym own) ∙ told.0) told.1)
    ])

pub returns : goal.returns
returns g c = λ e before is h.
    let rules = g.R.RecordRules.rules in
    let a = listed g.R.Record.about g.R.Fields.FieldList.about in
    let fs = record_fields a in
    let key : c.as_str.result.now ≡ e.0 = c.as_str.ensures.value ∙ key_read (g.D.Reader.source c.args.key) e.0 c.in_ok-name.name is.0 c.in_ok-name.ensures in
    let own : c.own_name-own.result.now ≡ own_name rules.aliases e.0 = own_as c.own_name-own.result.now c.as_str.result.now e.0 _ rules.aliases c.own_name-own.ensures c.aliases.ensures key in
    let place : c.place_of-place.result ≡ place_of 0 a.names c.own_name-own.result.now = place_as c.place_of-place.result c.own_name-own.result.now _ a.names c.place_of-place.ensures c.names-names.ensures in
    let taken : is_refused rules.denies fs before (own_name rules.aliases e.0) ≡ false = ap (is_refused rules.denies fs before) (sym own) ∙ c.in_ok-admit.ensures before place h in
    let at = place ∙ ap (place_of 0 a.names) own ∙ at_place rules a c.requires (own_name rules.aliases e.0) in
    entered rules fs g.R.Fields.FieldList.holds (names_apart a c.requires) g.D.Error.Error.fault e before h.0 c.read_place.new.slots h.2 taken c.read_place.result (c.read_place.ensures (own_name rules.aliases e.0, e.1) h.0 at is.1 h.1)
