-- What a list writes, item by item.
use Rattle.std.proofs.Common.{◌≡◌, ℕ, ◌+◌, ◌<◌, List, [], ◌∷◌, ◌++◌, length, get_or, take, refl, ap, sym, ◌∙◌, Option, None, Some, append-nil, append_assoc, codes, Ok}
use Rattle.std.specs.Option.{IfSome}
use Rattle.std.specs.declared.fmt.Formatter.{Formatter}
use Rattle.std.specs.Fmt.{◌++?◌, IsPlainFormatter, HasWritten, DisplaysOnOk}
use Rattle.std.proofs.lemmas.List.{take_more}
use Rattle.std.proofs.Output.{has_written_append}
use Rattle.omega_net.specs.Texts.{later_items_text}

then_assoc : (o p q : Option (List ℕ)) → (o ++? p) ++? q ≡ o ++? (p ++? q)
then_assoc None p q = refl
then_assoc (Some a) None q = refl
then_assoc (Some a) (Some b) None = refl
then_assoc (Some a) (Some b) (Some c) = ap (λ l. Some l) (append_assoc a b c)

then_nothing : (o : Option (List ℕ)) → o ++? Some [] ≡ o
then_nothing None = refl
then_nothing (Some a) = ap (λ l. Some l) (append-nil a)

nothing_then : (o : Option (List ℕ)) → Some [] ++? o ≡ o
nothing_then None = refl
nothing_then (Some a) = refl

-- one item more
pub later_items-push : {T : Type 0} (text : T → Option (List ℕ)) (xs : List T) (x : T)
    → later_items_text text (xs ++ x ∷ []) ≡ later_items_text text xs ++? (Some (codes ",") ++? text x)
later_items-push text [] x =
    ap (λ o. Some (codes ",") ++? o) (then_nothing (text x)) ∙ sym (nothing_then (Some (codes ",") ++? text x))
later_items-push text (y ∷ xs) x =
    ap (λ o. Some (codes ",") ++? (text y ++? o)) (later_items-push text xs x)
    ∙ sym (then_assoc (Some (codes ",")) (text y ++? later_items_text text xs) (Some (codes ",") ++? text x)
    ∙ ap (λ o. Some (codes ",") ++? o) (then_assoc (text y) (later_items_text text xs) (Some (codes ",") ++? text x)))

pub later_items-take : {T : Type 0} (text : T → Option (List ℕ)) (xs : List T) (i : ℕ) (x : T) → i < length xs → x ≡ get_or xs i x
    → later_items_text text (take (i + 1) xs) ≡ later_items_text text (take i xs) ++? (Some (codes ",") ++? text x)
later_items-take text xs i x within is =
    ap (later_items_text text) (take_more xs i x within)
    ∙ later_items-push text (take i xs) (get_or xs i x)
    ∙ ap (λ y. later_items_text text (take i xs) ++? (Some (codes ",") ++? text y)) (sym is)

module _ {W : Type 0} (took : W → List ℕ → W → Type 0) where
  -- g is f after writing the text in o
  abbrev pub Shows : Formatter W → Option (List ℕ) → Formatter W → Type 0
  Shows f o g = IfSome o (λ bs. HasWritten took f bs g)

  pub shows_then : (f g h : Formatter W) (o p : Option (List ℕ)) → Shows f o g → (IsPlainFormatter g → Shows g p h) → Shows f (o ++? p) h
  shows_then f g h None p x y = tt
  shows_then f g h (Some a) None x y = tt
  shows_then f g h (Some a) (Some b) x y = has_written_append took f a g b h x (y x.plain)

  -- from what a write says where it went well, and back
  pub shows_from : (f g : Formatter W) (o : Option (List ℕ)) → DisplaysOnOk took f (Ok tt) o g → IsPlainFormatter f → Shows f o g
  shows_from f g None x plain = tt
  shows_from f g (Some a) x plain = x plain refl

  pub displays_from : (f g : Formatter W) (o : Option (List ℕ)) → (IsPlainFormatter f → Shows f o g) → DisplaysOnOk took f (Ok tt) o g
  displays_from f g None k = tt
  displays_from f g (Some a) k = λ plain ok. k plain
