use Rattle.std.proofs.Common.{◌≡◌, List, [], ◌∷◌, ◌++◌, sym, ap, ◌∙◌, subst, append_assoc}
use Rattle.std.specs.List.{IsDistinct}
use Rattle.std.specs.Map.{keys_of}
use Rattle.std.specs.String.{string_eq}
use Rattle.dynamo_value.proofs.Copied.{strings_kept, numbers_kept, blobs_kept}
use Rattle.dynamo_value.proofs.Members.{Entry, copied}
use Rattle.dynamo_value.proofs.attribute_value.+copy.Goals as goal

pub copy_map-loop-key-preserved : goal.copy_map-loop-key-preserved
copy_map-loop-key-preserved t c =
    let l = c.loop-key in
    let done = l.invariant.0 in
    let e : Entry = (c.in-Some.key.now, c.in-Some.value.now) in
    let left = c.next.new.self in
    let all : c.args.map.now.entries ≡ done ++ e ∷ left = l.invariant.1 ∙ ap (λ (es : List Entry). done ++ es) c.in-Some.ensures.steps in (
      done ++ e ∷ [],
      all ∙ sym (append_assoc done (e ∷ []) left),
      copied l.copies c.insert.new.self done left e c.in_ok-name.name c.in_ok-copy.field-0
          (subst (λ (es : List Entry). IsDistinct string_eq (keys_of es)) all c.iter-key-items.ensures.unique)
          l.invariant.2 c.in_ok-insert.ensures.updates c.in_ok-name.ensures.cases c.in_ok-copy.ensures,
    )

pub copy_leaf-returns-in_ok-clone-in-Ss : goal.copy_leaf-returns-in_ok-clone-in-Ss
copy_leaf-returns-in_ok-clone-in-Ss t c =
    let made = c.in_ok-clone-in-Ss in strings_kept c.args.value.now c.in-Ss.set made.field-0 made.ensures.cases.0 c.in-Ss.is

pub copy_leaf-returns-in_ok-clone-in-Ns : goal.copy_leaf-returns-in_ok-clone-in-Ns
copy_leaf-returns-in_ok-clone-in-Ns t c =
    let made = c.in_ok-clone-in-Ns in numbers_kept c.args.value.now c.in-Ns.set made.field-0 made.ensures.cases.0 c.in-Ns.is

pub copy_leaf-returns-in_ok-clone-in-Bs : goal.copy_leaf-returns-in_ok-clone-in-Bs
copy_leaf-returns-in_ok-clone-in-Bs t c =
    let made = c.in_ok-clone-in-Bs in blobs_kept c.args.value.now c.in-Bs.set made.field-0 made.ensures.cases.0 c.in-Bs.is
