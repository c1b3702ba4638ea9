use Rattle.std.proofs.Common.{◌≡◌, rules, string_bytes}
use Rattle.dynamo_value.specs.Av as av
use Rattle.dynamo_value.specs.View.{view}
use Rattle.dynamo_value.specs.declared.attribute_value.AttributeValue.{S, the_lemmas}
use Rattle.dynamo_read.proofs.show.character.Goals as goal

pub returns-in-S-clause-shown : goal.returns-in-S-clause-shown
returns-in-S-clause-shown g c source elements entries variants =
    let is : view (S c.in-S.text) ≡ av.S (string_bytes c.in-S.text) = search (rules, the_lemmas) in
    rw (c.in-S.is, is) (rw c.as_str.ensures.value at c.only_char.ensures.shown source elements entries variants)
