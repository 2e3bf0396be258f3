use Rattle.std.proofs.Common.{◌≡◌, [], Option, refl, sym, ◌∙◌, ap, subst}
use Rattle.std.specs.Io.KnownBytes.{Appends}
use Rattle.exh_commit.specs.PagedFile.{bytes_in, files_in, known_in}
use Rattle.exh_commit.specs.Comparison.{Comparison, comparison_of, contents_of}
use Rattle.exh_file.specs.Draft.{bytes_in as draft_bytes}
use Rattle.exh_paged.specs.SaveFilesFault.{IsOfContent}
use Rattle.exh_paged.proofs.CallLemmas.{each_known}
use Rattle.exh_paged.proofs.DraftLemmas.{content_of, made_to}
use Rattle.exh_paged.proofs.FilesLemmas.{leaves_as}
use Rattle.exh_paged.proofs.draft_edits.edits_to.Goals as goal

pub returns-in-Ok-made-clause-made : goal.returns-in-Ok-made-clause-made
returns-in-Ok-made-clause-made g c =
    let now = c.write_to-written.new.writer in
    let start : c.new-writer.result ≡ comparison_of (known_in g.D.Truthful.is_truthful c.args.file) [] 0 [] = c.new-writer.ensures ∙ ap (λ file. comparison_of (known_in g.D.Truthful.is_truthful file) [] 0 []) c.new.ensures in
    let written = rw c.in-Ok.is at c.write_to-written.ensures.ok in
    made_to (known_in g.D.Truthful.is_truthful c.args.file) c.args.draft now c.in-Ok-made.edits.items
    (subst (λ (first : Option Comparison). Appends (contents_of first) (contents_of now) (draft_bytes c.args.draft)) start written)
    (λ old new is whole. rw c.in-Ok-made.is at c.finish-made.ensures.made old new is whole)

pub returns-in-Ok-made-clause-honest : goal.returns-in-Ok-made-clause-honest
returns-in-Ok-made-clause-honest g c clean = sym c.requires.clean ∙ c.into_file-file.ensures.honest clean

pub returns-in-Ok-made-clause-crash : goal.returns-in-Ok-made-clause-crash
returns-in-Ok-made-clause-crash g c =
    let end = c.into_file-file.result in
    leaves_as g.D.Disk (files_in end) (files_in end) (λ was bytes. bytes ≡ was) g.K.Before.bytes (bytes_in c.args.file) refl (λ clean. c.requires.bytes) (c.into_file-file.ensures.crash (c.requires.ready ∙ c.requires.is_ready))

pub returns-in-Err-made-clause-honest : goal.returns-in-Err-made-clause-honest
returns-in-Err-made-clause-honest g c clean = sym c.requires.clean ∙ c.into_file-file.ensures.honest clean

pub returns-in-Err-made-clause-crash : goal.returns-in-Err-made-clause-crash
returns-in-Err-made-clause-crash g c =
    let end = c.into_file-file.result in
    leaves_as g.D.Disk (files_in end) (files_in end) (λ was bytes. bytes ≡ was) g.K.Before.bytes (bytes_in c.args.file) refl (λ clean. c.requires.bytes) (c.into_file-file.ensures.crash (c.requires.ready ∙ c.requires.is_ready))

pub returns-in-Err-clause-honest : goal.returns-in-Err-clause-honest
returns-in-Err-clause-honest g c clean = sym c.requires.clean ∙ c.into_file-file.ensures.honest clean

pub returns-in-Err-clause-crash : goal.returns-in-Err-clause-crash
returns-in-Err-clause-crash g c =
    let end = c.into_file-file.result in
    leaves_as g.D.Disk (files_in end) (files_in end) (λ was bytes. bytes ≡ was) g.K.Before.bytes (bytes_in c.args.file) refl (λ clean. c.requires.bytes) (c.into_file-file.ensures.crash (c.requires.ready ∙ c.requires.is_ready))

pub returns-in-Err-made-clause-content : goal.returns-in-Err-made-clause-content
returns-in-Err-made-clause-content g c =
    let now = c.write_to-written.new.writer in
    let start : c.new-writer.result ≡ comparison_of (known_in g.D.Truthful.is_truthful c.args.file) [] 0 [] = c.new-writer.ensures ∙ ap (λ file. comparison_of (known_in g.D.Truthful.is_truthful file) [] 0 []) c.new.ensures in
    let written = rw c.in-Ok.is at c.write_to-written.ensures.ok in
    content_of (known_in g.D.Truthful.is_truthful c.args.file) c.args.draft now c.in-Err-made.fault
    (subst (λ (first : Option Comparison). Appends (contents_of first) (contents_of now) (draft_bytes c.args.draft)) start written)
    (λ old new is. rw c.in-Err-made.is at c.finish-made.ensures.shorter old new is)

pub returns-in-Err-clause-content : goal.returns-in-Err-clause-content
returns-in-Err-clause-content g c =
    each_known (known_in g.D.Truthful.is_truthful c.args.file) (λ bytes. IsOfContent c.args.draft bytes c.cause_of.result) (λ bytes is. c.cause_of.ensures.content c.args.draft bytes)
