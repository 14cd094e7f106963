use Rattle.std.proofs.Common.{◌≡◌, ◌<◌, length, get_or, sym, ap, arith}
use Rattle.std.specs.Option.{option_map_or}
use Rattle.project_book.specs.declared.words.FirstWord.{FirstWord}
use Rattle.project_book.proofs.Halves.{word_there, word_missing}
use Rattle.project_book.proofs.words.word_in.Goals.{else-place-words-via-then-place-words+else-words-place, else-place-words-via-else-place-words}
use Rattle.project_book.proofs.words.word_in.Goals as goal

pub returns-then-words-place : goal.returns-then-words-place
returns-then-words-place c =
    let ws = c.args.words.now in
    sym (ap (λ o. option_map_or (λ (w : FirstWord). w.word) o 0) (word_there ws c.requires c.args.address c.count_below-place.result (record { address = 0; word = 0 }) c.count_below-place.ensures c.if-place-words.true c.if-words-place.true))

pub returns-else-place-words : goal.returns-else-place-words
returns-else-place-words c =
    let ws = c.args.words.now in
    let n = c.count_below-place.result in
    let d : FirstWord = record { address = 0; word = 0 } in
    let other : n < length ws → (get_or ws n d).address ≡ c.args.address → ⊥ = λ h e. elim c.else-place-words.branch [
      | else-place-words-via-then-place-words+else-words-place w ↦ w.if-words-place.false e
      | else-place-words-via-else-place-words w ↦ omega (arith, h, w.if-place-words.false)
    ] in
    sym (ap (λ o. option_map_or (λ (w : FirstWord). w.word) o 0) (word_missing ws c.requires c.args.address n d c.count_below-place.ensures other))
