use Rattle.std.proofs.Common.{◌∙◌, map, option_map, sym, arith}
use Rattle.std.specs.Arc.{arc_value}
use Rattle.project_book.proofs.Paging.{paged_word, paged_past}
use Rattle.project_book.proofs.words.FirstWords.word.Goals as goal

pub returns-then-address-lt-ADDRESSES : goal.returns-then-address-lt-ADDRESSES
returns-then-address-lt-ADDRESSES c =
    let pages = map (option_map arc_value) c.self.inside.pages.items in
    c.word_among.ensures ∙ rw (c.deref.ensures.value, ← c.self.view_is) (sym (paged_word pages c.args.address c.if-address-lt-ADDRESSES.true))

pub returns-else-address-lt-ADDRESSES : goal.returns-else-address-lt-ADDRESSES
returns-else-address-lt-ADDRESSES c =
    let pages = map (option_map arc_value) c.self.inside.pages.items in
    rw (← c.self.view_is) (sym (paged_past pages c.args.address (omega (arith, c.if-address-lt-ADDRESSES.false))))
