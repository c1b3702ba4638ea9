-- The prefix that a `Prefix` of the program stands for.
use Rattle.dynamo_value.specs.Prefix as prefix
use Rattle.dynamo_value.specs.declared.prefix.Prefix.{Prefix}

abbrev pub prefix_view : Prefix → prefix.Prefix
prefix_view Prefix.N = prefix.N
prefix_view Prefix.S = prefix.S
prefix_view Prefix.Bool = prefix.Bool
prefix_view Prefix.B = prefix.B
prefix_view Prefix.Null = prefix.Null
prefix_view Prefix.M = prefix.M
prefix_view Prefix.L = prefix.L
prefix_view Prefix.Ss = prefix.Ss
prefix_view Prefix.Ns = prefix.Ns
prefix_view Prefix.Bs = prefix.Bs
