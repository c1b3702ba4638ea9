-- What a clone of a set keeps.
use Rattle.std.proofs.Common.{◌≡◌, ℕ, List, [], ◌∷◌, map, refl, sym, ap, ◌∙◌, Vec, Global, String, string_bytes}
use Rattle.std.specs.List.{AllZip}
use Rattle.std.specs.contracts.prelude.U8Clone.TheImpl as byte
use Rattle.dynamo_value.specs.Av as av
use Rattle.dynamo_value.specs.View.{view}
use Rattle.dynamo_value.specs.declared.attribute_value.AttributeValue.{AttributeValue, Ss, Ns, Bs}
use Rattle.dynamo_value.proofs.Views.{view_strings, view_numbers, view_blobs}

abbrev TextCopied : String Global → String Global → Type 0
TextCopied s t = string_bytes t ≡ string_bytes s

abbrev BlobCopied : Vec ℕ Global → Vec ℕ Global → Type 0
BlobCopied v w = AllZip byte.ghosts.is_clone v.items w.items × (w.len ≡ v.len)

texts : (vs ws : List (String Global)) → AllZip TextCopied vs ws → map string_bytes ws ≡ map string_bytes vs
texts [] [] h = refl
texts [] (w ∷ ws) h = absurd h
texts (v ∷ vs) [] h = absurd h
texts (v ∷ vs) (w ∷ ws) h = λ i. h.0 i ∷ texts vs ws h.1 i

bytes : (vs ws : List ℕ) → AllZip byte.ghosts.is_clone vs ws → ws ≡ vs
bytes [] [] h = refl
bytes [] (w ∷ ws) h = absurd h
bytes (v ∷ vs) [] h = absurd h
bytes (v ∷ vs) (w ∷ ws) h = λ i. h.0 i ∷ bytes vs ws h.1 i

blobs : (vs ws : List (Vec ℕ Global)) → AllZip BlobCopied vs ws → map (λ b. b.items) ws ≡ map (λ b. b.items) vs
blobs [] [] h = refl
blobs [] (w ∷ ws) h = absurd h
blobs (v ∷ vs) [] h = absurd h
blobs (v ∷ vs) (w ∷ ws) h = λ i. bytes v.items w.items h.0.0 i ∷ blobs vs ws h.1 i

module _ (a : AttributeValue) where
  module _ (v w : Vec (String Global) Global) (h : AllZip TextCopied v.items w.items) where
    pub strings_kept : a ≡ Ss v → view (Ss w) ≡ view a
    strings_kept is = view_strings w ∙ ap av.Ss (texts v.items w.items h) ∙ sym (view_strings v) ∙ ap view (sym is)

    pub numbers_kept : a ≡ Ns v → view (Ns w) ≡ view a
    numbers_kept is = view_numbers w ∙ ap av.Ns (texts v.items w.items h) ∙ sym (view_numbers v) ∙ ap view (sym is)

  pub blobs_kept : (v w : Vec (Vec ℕ Global) Global) → AllZip BlobCopied v.items w.items → a ≡ Bs v → view (Bs w) ≡ view a
  blobs_kept v w h is = view_blobs w ∙ ap av.Bs (blobs v.items w.items h) ∙ sym (view_blobs v) ∙ ap view (sym is)
