-- The printed text of why a call on a table was refused.
use Rattle.std.specs.Prelude.{ℕ, List, codes}
use Rattle.table_keys.specs.declared.error.TableError.{TableError}

abbrev pub error_text : TableError → List ℕ
error_text TableError.Missing = codes "an attribute of the key is missing"
error_text TableError.NoSortKey = codes "the table has no sort key"
error_text TableError.WrongKind = codes "an attribute of the key is of another kind"
error_text TableError.Empty = codes "a text or a byte string of the key is empty"
error_text TableError.NotANumber = codes "a number of the key is no number"
error_text TableError.NotBase64 = codes "a byte string of the key is no base64 text"
error_text TableError.NotAnAttribute = codes "a key attribute is not of the form NAME:KIND"
error_text TableError.NoItem = codes "no item has the key"
error_text TableError.KeyChanged = codes "the update would give the item another key"
error_text TableError.ConditionFailed = codes "the condition does not hold"
error_text TableError.OutOfMemory = codes "out of memory"
