-- The words of a line as texts, one more.
use Rattle.std.proofs.Common.{◌≡◌, Bool, true, false, ◌&&◌, List, [], ◌∷◌, ◌++◌, ℕ, inr, refl, sym, ap, ◌∙◌, append_assoc}
use Rattle.std.specs.Borrow.{Bor}
use Rattle.std.specs.List.{list_all}
use Rattle.std.specs.Prelude.{IsUtf8}
use Rattle.std.specs.Str.{is_utf8}
use Rattle.std.proofs.lemmas.List.{map-append}
use Rattle.std.proofs.lemmas.Str.{IsUtf8-from_is_utf8, is_utf8-from_IsUtf8}
use Rattle.lab_tasks.specs.Askings.{AreUnread}
use Rattle.lab_tasks.specs.Words.{texts_of}

pub one_more : (old new : List (Bor (List ℕ))) (text : Bor (List ℕ)) (word : List ℕ) (words behind all : List (List ℕ)) → new ≡ old ++ text ∷ []
    → text.now ≡ word → words ≡ word ∷ behind → texts_of old ++ words ≡ all → texts_of new ++ behind ≡ all
one_more old new text word words behind all pushed is split h =
    ap (λ ts. texts_of ts ++ behind) pushed ∙ ap (λ ts. ts ++ behind) (map-append (λ t. t.now) old (text ∷ []))
    ∙ append_assoc (texts_of old) (text.now ∷ []) behind ∙ ap (λ t. texts_of old ++ t ∷ behind) is ∙ ap (λ ws. texts_of old ++ ws) (sym split) ∙ h

pub valid_more : (word : List ℕ) (words behind all : List (List ℕ)) → IsUtf8 word → words ≡ word ∷ behind
    → list_all is_utf8 all ≡ list_all is_utf8 words → list_all is_utf8 all ≡ list_all is_utf8 behind
valid_more word words behind all valid split h =
    h ∙ ap (list_all is_utf8) split ∙ ap (λ b. b && list_all is_utf8 behind) (is_utf8-from_IsUtf8 word valid)

invalid_at : (word : List ℕ) (b : Bool) → is_utf8 word ≡ b → ¬ (IsUtf8 word) → b ≡ false
invalid_at word true e n = absurd (n (IsUtf8-from_is_utf8 word e))
invalid_at word false e n = refl

pub invalid : (word : List ℕ) (words behind all : List (List ℕ)) → ¬ (IsUtf8 word) → words ≡ word ∷ behind
    → list_all is_utf8 all ≡ list_all is_utf8 words → list_all is_utf8 all ≡ false
invalid word words behind all not_valid split h =
    h ∙ ap (list_all is_utf8) split ∙ ap (λ b. b && list_all is_utf8 behind) (invalid_at word (is_utf8 word) refl not_valid)

pub invalid_first : (word : List ℕ) (words behind : List (List ℕ)) → ¬ (IsUtf8 word) → words ≡ word ∷ behind → list_all is_utf8 words ≡ false
invalid_first word words behind not_valid split = invalid word words behind words not_valid split refl

pub unread : (word : List ℕ) (words behind : List (List ℕ)) → ¬ (IsUtf8 word) → words ≡ word ∷ behind → AreUnread words
unread word words behind not_valid split = inr (invalid_first word words behind not_valid split)
