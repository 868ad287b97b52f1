-- The entries that were counted are there, and so are their tags and the next offset.
use mathlib.Core.Path.{◌∙◌}
use native.Mathlib.Omega.{arith}
use borrow.Author.Rules.{rules}
use Rattle.checks.proofs.Rules.{handed_on}
use Rattle.checks.proofs.Leaving.{passed_on, refused_on}
use Rattle.seen.specs.Seen.{seen}
use Rattle.directory.proofs.Directories.{directory_uncounted, entries_fit, tags_there, next_there}
use Rattle.directory.proofs.read_directory.Goals as goal

pub returns-in_err-entries : goal.returns-in_err-entries
returns-in_err-entries c =
    let (e, q, z) = refused_on c.args.left (λ e k. search rules) c.in_err-entries.ensures.cases in
    handed_on c.from_residual.ensures.1 (directory_uncounted _ _ _ _ _ (q ∙ c.count_entries.ensures) z)

pub read_tags-requires : goal.read_tags-requires
read_tags-requires c = tags_there _ _ _ _ c.args.left (passed_on c.in_ok-entries.ensures.cases ∙ c.count_entries.ensures)

pub word4-next-requires : goal.word4-next-requires
word4-next-requires c = next_there _ _ _ _ c.args.left (passed_on c.in_ok-entries.ensures.cases ∙ c.count_entries.ensures)

pub overflow_add-entries : goal.overflow_add-entries
overflow_add-entries c =
    omega (arith, entries_fit (seen c.args.file.now c.args.map.now) _ _ _ c.args.left (passed_on c.in_ok-entries.ensures.cases ∙ c.count_entries.ensures))

pub overflow_add-first : goal.overflow_add-first
overflow_add-first c =
    omega (arith, entries_fit (seen c.args.file.now c.args.map.now) _ _ _ c.args.left (passed_on c.in_ok-entries.ensures.cases ∙ c.count_entries.ensures))

pub overflow_mul-entries : goal.overflow_mul-entries
overflow_mul-entries c =
    omega (arith, entries_fit (seen c.args.file.now c.args.map.now) _ _ _ c.args.left (passed_on c.in_ok-entries.ensures.cases ∙ c.count_entries.ensures))

pub overflow_add-first-2 : goal.overflow_add-first-2
overflow_add-first-2 c =
    omega (arith, entries_fit (seen c.args.file.now c.args.map.now) _ _ _ c.args.left (passed_on c.in_ok-entries.ensures.cases ∙ c.count_entries.ensures))
