use Rattle.std.proofs.Common.{◌≡◌, refl, ◌∙◌}
use Rattle.dynamo_record.proofs.Common.{listed, record_fields, place_in}
use Rattle.dynamo_record.proofs.Structs.{place_named}
use Rattle.dynamo_record.proofs.record.read_entry.Goals as goal

pub returns : goal.returns
returns g c = λ e os is h.
    let a = listed g.R.Record.about g.R.Fields.FieldList.about in
    let at : c.in_ok-place.place ≡ place_in 0 (record_fields a) e.0 = c.in_ok-place.ensures e.0 is.0 ∙ place_named a c.requires _ e.0 e.0 c.names.ensures refl in
    c.read_place.ensures e os at is.1 h
