use Rattle.dynamo_json.proofs.Common.{view}
use Rattle.serde_json.specs.View as sj
use Rattle.dynamo_json.proofs.ReadBack.{value_is}
use Rattle.dynamo_json.proofs.Results.{if_ok}
use Rattle.dynamo_json.proofs.Texts.{has_texts}
use Rattle.dynamo_json.proofs.dynamo.AttributeValueDynamoJson.from_json.Goals as goal

pub returns-clause-ok : goal.returns-clause-ok
returns-clause-ok c =
    let json = c.args.json.now in
    if_ok c.value.result (λ a h. value_is (sj.view json) (view a) (has_texts json) h) c.value.ensures.ok
