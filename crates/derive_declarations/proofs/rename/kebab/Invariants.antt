use Rattle.std.proofs.Common.{◌≡◌, ◌++◌, string_bytes}
use Rattle.std.specs.Str.Iter.{chars_rest}
use Rattle.derive_declarations.specs.Renamed.{kebab}
use Rattle.derive_declarations.proofs.rename.kebab.Given as goal

abbrev pub invariant-loop-c : goal.invariant-loop-c
invariant-loop-c l = string_bytes l.name ++ kebab (chars_rest l.c-iterator) ≡ kebab l.fn.snake
