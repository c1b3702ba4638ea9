use Rattle.std.proofs.Common.{rules}
use Rattle.dynamo_read.specs.Reader.{source_of}
use Rattle.dynamo_read.specs.Unread.{elements_left, entries_left, chosen_of}
use Rattle.dynamo_read.proofs.show.attribute_value.Goals as goal

-- what is shown without a reader is so at these readers
pub returns-in-Bool-clause-shown : goal.returns-in-Bool-clause-shown
returns-in-Bool-clause-shown c =
    let shown = c.boolean.ensures.shown source_of elements_left entries_left chosen_of in
    search (rules, c.in-Bool.is)

pub returns-in-Char-clause-shown : goal.returns-in-Char-clause-shown
returns-in-Char-clause-shown c =
    let shown = c.character.ensures.shown source_of elements_left entries_left chosen_of in
    search (rules, c.in-Char.is)

pub returns-in-Unit-clause-shown : goal.returns-in-Unit-clause-shown
returns-in-Unit-clause-shown c =
    let shown = c.null.ensures.shown source_of elements_left entries_left chosen_of in
    search (rules, c.in-Unit.is)

pub returns-in-UnitStruct-clause-shown : goal.returns-in-UnitStruct-clause-shown
returns-in-UnitStruct-clause-shown c =
    let shown = c.null-in-UnitStruct.ensures.shown source_of elements_left entries_left chosen_of in
    search (rules, c.in-UnitStruct.is)
