use Rattle.std.proofs.Common.{◌≡◌, ◌++◌, string_bytes}
use Rattle.std.specs.List.{flat_map}
use Rattle.std.specs.Str.Iter.{chars_rest}
use Rattle.derive_declarations.specs.Renamed.{snake, worded}
use Rattle.derive_declarations.proofs.rename.snake.Given as goal

abbrev pub invariant-loop-c : goal.invariant-loop-c
invariant-loop-c l = string_bytes l.name ++ flat_map worded (chars_rest l.c-iterator) ≡ snake l.fn.pascal
