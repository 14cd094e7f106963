use Rattle.std.specs.Prelude.{OnOk, Result, Ok, Err}
use Rattle.edit_undo.proofs.Back.{of_edit, entry_leads_back, cut_leads_back, word_leads_back, page_leads_back, combine_leads_back}
use Rattle.edit_undo.proofs.edits.undoing.Goals as goal

always : {T E : Type 0} (r : Result T E) {A : Type 0} → A → OnOk r A
always (Ok x) a = a
always (Err e) a = tt

both_ok : {T E : Type 0} (r : Result T E) {A B C : Type 0} → OnOk r A → OnOk r B → (A → B → C) → OnOk r C
both_ok (Ok x) a b f = f a b
both_ok (Err e) a b f = tt

pub returns-in-Entry-clause-back : goal.returns-in-Entry-clause-back
returns-in-Entry-clause-back c = λ ok.
    let P = c.args.project.now in
    always c.one.result
    (λ v room. of_edit P c.args.edit _ v c.in-Entry.is
    (entry_leads_back P v c.in-Entry.proc c.in-Entry.index c.in-Entry.entry c.is_project.ensures.project c.entry_back.ensures.few c.entry_back.ensures.within) ok room)

pub returns-in-Cut-clause-back : goal.returns-in-Cut-clause-back
returns-in-Cut-clause-back c = λ ok.
    let P = c.args.project.now in
    both_ok c.cut_back.result c.cut_back.ensures.within c.cut_back.ensures.few
    (λ within few v room. of_edit P c.args.edit _ v c.in-Cut.is (cut_leads_back P v c.in-Cut.proc c.in-Cut.length c.is_project.ensures.project few within) ok room)

pub returns-in-Word-clause-back : goal.returns-in-Word-clause-back
returns-in-Word-clause-back c = λ ok.
    let P = c.args.project.now in
    always c.one-in-Word.result (λ v room. of_edit P c.args.edit _ v c.in-Word.is (word_leads_back P v c.in-Word.address c.in-Word.word c.words-words.ensures.listing) ok room)

pub returns-in-Page-clause-back : goal.returns-in-Page-clause-back
returns-in-Page-clause-back c = λ ok.
    let P = c.args.project.now in
    always c.one-in-Page.result
    (λ v room. of_edit P c.args.edit _ v c.in-Page.is
    (page_leads_back P v c.in-Page.page c.in-Page.amount c.in-Page.base c.is_project.ensures.project c.is_project.ensures.pages) ok room)

pub returns-in-Combine-clause-back : goal.returns-in-Combine-clause-back
returns-in-Combine-clause-back c = λ ok.
    let P = c.args.project.now in
    always c.one-in-Combine.result (λ v room. of_edit P c.args.edit _ v c.in-Combine.is (combine_leads_back P v c.in-Combine.stage c.in-Combine.on) ok room)
