use Rattle.std.proofs.Common.{◌≡◌, Result, Ok, Err, subst, inl, inr}
use Rattle.std.specs.Prelude.{IfOk}
use Rattle.dynamo_value.specs.Av.{Av}
use Rattle.dynamo_value.specs.Fault.{Fault}
use Rattle.dynamo_value.specs.Kind.{fault_of}
use Rattle.dynamo_value.specs.View.{view}
use Rattle.dynamo_value.specs.declared.error.Error.{Error}
use Rattle.dynamo_de.specs.Meets.{Meets}
use Rattle.dynamo_de.specs.Source.{Source, attribute}
use Rattle.dynamo_shape.specs.Conforms.{conforms}
use Rattle.dynamo_shape.specs.Laws.{ReadsByShape}
use Rattle.dynamo_shape.specs.Permits.{SameAnswer}
use Rattle.dynamo_shape.specs.Read.{read}
use Rattle.dynamo_shape.proofs.OneAnswer.{one_by_value}
use Rattle.serde_dynamo.specs.About.{About}
use Rattle.example_types.proofs.at_shapes.read_twice.Goals as goal

module _ {T : Type 0} (about : About T) (reads : Source → Result T Fault → Type 0) (by_shape : ReadsByShape about.shape about.tells reads) where
  abbrev Conforms : {E : Type 0} → Result T E → Type 0
  Conforms r = IfOk r (λ v. conforms about.shape (about.tells v))

  one_answer : (source : Source) (r q : Result T Fault) → Conforms r → Conforms q → reads source r → reads source q → SameAnswer about.same r q
  one_answer source r q c d h k = one_by_value about.shape about.tells about.same about.told_by_value (read about.shape source) r q c d (by_shape source r h) (by_shape source q k)

  -- two reads from one source, unless memory runs out
  agree : (source : Source) (r q : Result T Error) → Conforms r → Conforms q → Meets fault_of (reads source) r → Meets fault_of (reads source) q → Meets fault_of (λ x. Meets fault_of (SameAnswer about.same x) q) r
  agree source (Ok v) (Ok w) c d h k = one_answer source (Ok v) (Ok w) c d h k
  agree source (Ok v) (Err e) c d h (inl lacks) = inl lacks
  agree source (Ok v) (Err e) c d h (inr k) = inr (one_answer source (Ok v) (Err (fault_of e)) c d h k)
  agree source (Err e) q c d (inl lacks) k = inl lacks
  agree source (Err e) (Ok w) c d (inr h) k = inr (one_answer source (Err (fault_of e)) (Ok w) c d h k)
  agree source (Err e) (Err f) c d (inr h) (inl lacks) = inr (inl lacks)
  agree source (Err e) (Err f) c d (inr h) (inr k) = inr (inr (one_answer source (Err (fault_of e)) (Err (fault_of f)) c d h k))

  -- and from two that are equal
  agree_on : (a b : Av) (r q : Result T Error) → a ≡ b → Conforms r → Conforms q → Meets fault_of (reads (attribute a)) r → Meets fault_of (reads (attribute b)) q → Meets fault_of (λ x. Meets fault_of (SameAnswer about.same x) q) r
  agree_on a b r q is c d h k = agree (attribute b) r q c d (subst (λ x. Meets fault_of (reads (attribute x)) r) is h) k

pub returns-clause-same : goal.returns-clause-same
returns-clause-same g c is =
    agree_on g.T.Shaped.about g.T.Deserialize.reads g.met.T.Shaped.reads_by_shape (view c.args.first) (view c.args.second) c.conforming.result c.conforming-2.result
    is c.conforming.ensures.conforms c.conforming-2.ensures.conforms c.conforming.ensures.reads c.conforming-2.ensures.reads
