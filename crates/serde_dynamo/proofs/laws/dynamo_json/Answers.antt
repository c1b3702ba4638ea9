use Rattle.dynamo_json.proofs.Floats.{writes_no_float, writes_items_without_float}
use Rattle.dynamo_json.proofs.Messages.{refuses_by_message, refuses_items_by_message}
use Rattle.dynamo_json.proofs.ReadBack.{reads_exactly, reads_items_exactly, stands_for_one, stands_for_one_item}
use Rattle.dynamo_json.proofs.Texts.{has_texts}
use Rattle.serde_dynamo.proofs.laws.dynamo_json.Goals as goal

pub returns-clause-exact : goal.returns-clause-exact
returns-clause-exact c = reads_exactly

pub returns-clause-one : goal.returns-clause-one
returns-clause-one c = stands_for_one

pub returns-clause-message : goal.returns-clause-message
returns-clause-message c = refuses_by_message

pub returns-clause-item_exact : goal.returns-clause-item_exact
returns-clause-item_exact c = reads_items_exactly

pub returns-clause-item_one : goal.returns-clause-item_one
returns-clause-item_one c = stands_for_one_item

pub returns-clause-item_message : goal.returns-clause-item_message
returns-clause-item_message c = refuses_items_by_message

pub returns-clause-texts : goal.returns-clause-texts
returns-clause-texts c = has_texts

pub returns-clause-no_float : goal.returns-clause-no_float
returns-clause-no_float c = writes_no_float

pub returns-clause-item_no_float : goal.returns-clause-item_no_float
returns-clause-item_no_float c = writes_items_without_float
