-- A project by its parts.
use Rattle.project_book.specs.declared.parts.Parts.{Parts}
use Rattle.project_book.specs.Project.{Project}

-- the project of these parts
abbrev pub project_of : Parts → Project
project_of p = record {
  scale = p.scale;
  k = p.k;
  horizon = p.horizon;
  window = p.window;
  depths = p.depths;
  wait = p.wait;
  combine = p.combine;
  pages = p.pages;
  words = p.words;
  scripts = p.scripts;
}
