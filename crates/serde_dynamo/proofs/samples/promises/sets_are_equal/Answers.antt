use Rattle.std.proofs.Common.{string_bytes, sym, subst, Bool}
use Rattle.std.proofs.lemmas.Bool.Decides.{Decides-eqb}
use Rattle.std.specs.Cmp.Lexicographic.{bytes_decides}
use Rattle.std.specs.Bool.{Decides}
use Rattle.dynamo_value.specs.Bytes.{octets_of}
use Rattle.serde_dynamo.specs.SampleShapes.{same_sets}
use Rattle.serde_dynamo.proofs.SamplesEqual.{both_decide, each_decides}
use Rattle.serde_dynamo.proofs.samples.promises.sets_are_equal.Goals as goal

pub returns : goal.returns
returns c =
    let s = c.args.sets.now in
    let t = c.args.other.now in
    let names = each_decides _ _ (λ a b. bytes_decides (string_bytes a) (string_bytes b)) s.names.items t.names.items in
    let the_numbers = each_decides _ _ Decides-eqb s.numbers.items t.numbers.items in
    let the_blobs = each_decides _ _ (λ a b. bytes_decides (octets_of a) (octets_of b)) s.blobs.items t.blobs.items in
    subst (λ (b : Bool). Decides b (same_sets s t)) (sym c.eq.ensures) (both_decide _ _ _ _ names (both_decide _ _ _ _ the_numbers the_blobs))
