use Rattle.std.proofs.Common.{◌≡◌, ◌++◌, List, subst, string_bytes}
use Rattle.lab_tasks.specs.declared.hot.Hot.{Hot}
use Rattle.lab_tasks.specs.Heats.{hot_lines}
use Rattle.lab_tasks.specs.Summaries.{machine_line, places_line, combining_line, scripts_line}
use Rattle.lab_tasks.proofs.Listing.{five_pieces}
use Rattle.lab_tasks.proofs.check.summary.Goals as goal

pub returns : goal.returns
returns c =
    let P = c.args.project.now in
    let words = c.in_ok-words.words.items in
    let modules = c.in_ok-modules.modules.items in
    let before = string_bytes c.add_scripts.new.text in
    let after = string_bytes c.add_hot.new.text in
    let first : after ≡ before ++ hot_lines words c.as_slice-2.result.now =
    subst (λ (ws : List Hot). after ≡ before ++ hot_lines ws c.as_slice-2.result.now) c.as_slice.ensures.value c.in_ok-add_hot.ensures in
    let hot : after ≡ before ++ hot_lines words modules =
    subst (λ (ms : List Hot). after ≡ before ++ hot_lines words ms) c.as_slice-2.ensures.value first in (
      words,
      modules,
      c.in_ok-words.ensures,
      c.in_ok-modules.ensures,
      five_pieces (string_bytes c.new-text.result) (string_bytes c.add_machine.new.text) (string_bytes c.add_places.new.text)
          (string_bytes c.add_combining.new.text) before after (machine_line P) (places_line P) (combining_line P) (scripts_line P) (hot_lines words modules)
          c.new-text.ensures.bytes c.in_ok-add_machine.ensures c.in_ok-add_places.ensures c.in_ok-add_combining.ensures c.in_ok-add_scripts.ensures hot,
    )
