-- The document that a text is.
use Rattle.std.proofs.Common.{◌≡◌, ℕ, List, Some, None, Ok, Err, inl, inr}
use Rattle.std.specs.Prelude.{IsUtf8}
use Rattle.std.specs.Str.{is_utf8}
use Rattle.std.proofs.lemmas.Bool.{cases_Bool}
use Rattle.std.proofs.lemmas.Str.{is_utf8-from_IsUtf8, IsUtf8-from_is_utf8}
use Rattle.toml.specs.Data.{Members}
use Rattle.toml.specs.Parse.{parse_document}
use Rattle.project_file.specs.declared.fault.ProjectFault.TheVariants.{Text}
use Rattle.project_file.specs.Filed.{document_of}

pub document_read : (bytes : List ℕ) (ms : Members) → IsUtf8 bytes → parse_document bytes ≡ Some ms → document_of bytes ≡ Ok ms
document_read bytes ms utf8 read = rw (is_utf8-from_IsUtf8 bytes utf8, read)

pub document_refused : (bytes : List ℕ) → IsUtf8 bytes → parse_document bytes ≡ None → document_of bytes ≡ Err Text
document_refused bytes utf8 read = rw (is_utf8-from_IsUtf8 bytes utf8, read)

pub text_refused : (bytes : List ℕ) → ¬ (IsUtf8 bytes) → document_of bytes ≡ Err Text
text_refused bytes other =
    elim (cases_Bool (is_utf8 bytes)) [
      | inl same ↦ absurd (other (IsUtf8-from_is_utf8 bytes same))
      | inr refused ↦ rw refused
    ]
