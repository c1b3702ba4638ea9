-- What the two walks of `src/events.rt` share: a struct without ordinary fields is made of nothing.
use Rattle.std.proofs.Common.{List, [], ◌∷◌, refl}
use seplogic.Ra.Ura.{Ura}
use mir.Val.{Val, vstruct, vnil}
use types.Logic.{Logic}
use types.Kit.{Goal, Step, step, Item, ‵, ◌$◌, fjoin, fpack, feq_i}
use denote.RattleType.{RattleType, Valss}
use denote.Steps.{nothing}
use denote.Struct.Struct.{Struct, within}
pub use seplogic.Ra.Ura.{Ura}
pub use mir.Syntax.{Fn}
pub use mir.Val.{Val, vptr}
pub use base.Logic.{SProp, ent}
pub use prog.Memory.{Memory}
pub use prog.Routine.{Routine}
pub use prog.Wp.{Calls, Loops, WpFn, Tables}
pub use contract.Monad.{Fun}
pub use contract.Running.{tables}
pub use sound.WpLaws.{WpFn-mono}
pub use types.Logic.{Logic}
pub use types.Kit.{‵, raw, ◌⊛◌, prop, ◌$◌, ◌∵◌, !, qed, move, keep, drop, split, fsplit, fjoin, feq_l, regoal, suffices, done}
pub use types.Part.{agg}
pub use types.Run.{enter, returns, no_more}
pub use types.ByLocal.{alloc_all, pass_all, free_all, look_at, sets}
pub use denote.Builtin.{RefOf}
pub use denote.Exit.{yes}
pub use denote.RattleType.{owns}
pub use denote.Signature.{plain, types_at, named_lft}
pub use denote.Steps.{nothing}
pub use denote.Triple.Clauses.{Clauses, Ended, closing}
pub use denote.Triple.Entry.{alive}
pub use denote.Triple.Spec.{Meets, triple_of}
pub use denote.Triple.Table.{entered}
pub use denote.Triple.Walked.{says, Stays, stay_dropped, walk_of, ends_at, walk_Meets, Goes-dropped}

-- the machine's value of such a struct
abbrev pub bare : Val
bare = vstruct vnil

abbrev pub bare_type : RattleType
bare_type = Struct (record { name = []; args = []; types = []; fields = [] })

-- its ownership, put before what is owned
pub bare_owned : {M : Type 1} {𝓤 : Ura M} {𝓛 : Logic 𝓤} {K : Type 0} {Γ : List (Item 𝓤)} {G : Goal 𝓤 𝓛.H} → K → Step K 𝓛 (‵ (bare_type.own_val tt (bare ∷ [])) ∷ Γ) G Γ G
bare_owned at =
    step (λ rest. nothing at $ feq_i at (List Val) (bare ∷ []) (bare ∷ []) refl $ fjoin at $
    fpack at (Valss []) (within (record { name = []; args = []; types = []; fields = [] }) tt (bare ∷ [])) tt $ rest)
