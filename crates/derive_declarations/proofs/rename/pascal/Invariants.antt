use Rattle.std.proofs.Common.{◌≡◌, ◌++◌, string_bytes}
use Rattle.std.specs.Str.Iter.{chars_rest}
use Rattle.derive_declarations.specs.Renamed.{pascal, pascal_from}
use Rattle.derive_declarations.proofs.rename.pascal.Given as goal

abbrev pub invariant-loop-c : goal.invariant-loop-c
invariant-loop-c l = string_bytes l.name ++ pascal_from l.begins (chars_rest l.c-iterator) ≡ pascal l.fn.snake
