use Rattle.dynamo_json.proofs.AttributeBack.{attribute_back, item_back}
use Rattle.dynamo_json.proofs.TellsSome.{tells_some, item_tells_some}
use Rattle.dynamo_json.proofs.Told.{tells_its_datum, tells_its_item}
use Rattle.dynamo_json.proofs.ViewOrder.{views_in_order, item_views_in_order}
use Rattle.serde_dynamo.proofs.laws.attribute_value.Goals as goal

pub returns-clause-back : goal.returns-clause-back
returns-clause-back c = attribute_back

pub returns-clause-tells : goal.returns-clause-tells
returns-clause-tells c = tells_its_datum

pub returns-clause-order : goal.returns-clause-order
returns-clause-order c = views_in_order

pub returns-clause-item_back : goal.returns-clause-item_back
returns-clause-item_back c = item_back

pub returns-clause-item_tells : goal.returns-clause-item_tells
returns-clause-item_tells c = tells_its_item

pub returns-clause-item_order : goal.returns-clause-item_order
returns-clause-item_order c = item_views_in_order

pub returns-clause-some : goal.returns-clause-some
returns-clause-some c = tells_some

pub returns-clause-item_some : goal.returns-clause-item_some
returns-clause-item_some c = item_tells_some
