use Rattle.std.proofs.Common.{rules, ℕ, List, refl, ◌≡◌, ◌++◌, ◌∷◌, [], map, ap, ◌∙◌, Vec, Global}
use Rattle.dynamo_de.specs.ReadAttribute.{read_blob, read_blobs, read_each}
use Rattle.dynamo_de.specs.Reading.{read_elements}
use Rattle.dynamo_de.proofs.Attributes.{blobs_of}
use Rattle.dynamo_de.proofs.Promises.{answer_stops, EachFrom, taken_starts, taken_more, taken_ends, taken_stops}
use Rattle.dynamo_de.proofs.impls.attribute_value.read_blobs.Goals as goal

abbrev Blob : Type 0
Blob = Vec ℕ Global

abbrev items_of : Blob → List ℕ
items_of b = b.items

pub returns-in_err-elements : goal.returns-in_err-elements
returns-in_err-elements g c =
    let stop = answer_stops g.R.Reader.elements (λ (v : Vec Blob Global). map items_of v.items) (read_each read_blob) (read_elements (g.R.Reader.source c.args.reader)) (g.R.Error.Error.fault c.in_err-elements.field-0.0) c.in_err-elements.ensures in
    search rules

pub loop-element-init : goal.loop-element-init
loop-element-init g c = rw c.new-blobs.ensures.items (taken_starts items_of read_blob g.R.Reader.source (g.R.Reader.elements c.in_ok-elements.elements))

pub returns-in_err-bytes : goal.returns-in_err-bytes
returns-in_err-bytes g c =
    let s = g.R.Reader.source c.args.reader in
    let whole = blobs_of g.R.Reader.elements s c.in_ok-elements.elements (search rules) in
    let stop = taken_stops items_of read_blob g.R.Reader.source (λ (v : Vec Blob Global). map items_of v.items) (read_blobs s) c.loop-element.blobs.items
    (g.R.Reader.elements c.loop-element.elements) (g.R.Reader.elements c.next_element.new.rest) c.in-Some.element _ c.in-Some.ensures.taken (c.loop-element.invariant ∙ whole) c.in_err-bytes.ensures in
    search rules

pub loop-element-preserved : goal.loop-element-preserved
loop-element-preserved g c =
    let new = g.R.Reader.elements c.next_element.new.rest in
    let blobs = c.loop-element.blobs.items in
    let bytes = c.in_ok-bytes.bytes in
    let pushed : c.push.new.self.items ≡ blobs ++ bytes ∷ [] = search rules in
    ap (λ vs. EachFrom items_of read_blob vs new) pushed
    ∙ taken_more items_of read_blob g.R.Reader.source _ blobs bytes (g.R.Reader.elements c.loop-element.elements) new c.in-Some.element c.in-Some.ensures.taken c.loop-element.invariant c.in_ok-bytes.ensures

pub returns : goal.returns
returns g c =
    let s = g.R.Reader.source c.args.reader in
    let whole = blobs_of g.R.Reader.elements s c.in_ok-elements.elements (search rules) in
    rw (taken_ends items_of read_blob g.R.Reader.source (read_blobs s) c.loop-element.blobs.items (g.R.Reader.elements c.loop-element.elements) _ c.in_default.ensures.taken (c.loop-element.invariant ∙ whole)) refl
