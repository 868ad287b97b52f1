-- The front part: the charge before the profile, the page before it, the header before the page.
use Prim.Native.Nat.{ℕ}
use mathlib.Core.Path.{◌≡◌, refl, sym, ap, ◌∙◌}
use mathlib.Core.List.{List, [], ◌∷◌, ◌++◌}
use mathlib.Core.Bool.{Bool}
use Rattle.std.specs.Prelude.{Result, Ok, Err}
use Rattle.checks.specs.Numbers.{leaving}
use Rattle.checks.specs.Checks.{Check, pay, run, verdict}
use Rattle.checks.specs.declared.Refusal.{Refusal}
use Rattle.checks.specs.declared.Refused.{Refused}
use Rattle.checks.proofs.Exact.{then, stops, run_fine, run_refused}
use Rattle.checks.proofs.Rules.{tests_refused, tests_passed, checks_refused, checks_passed}
use Rattle.seen.specs.Seen.{Seen}
use Rattle.header.specs.Header.{header_checks, big_endian, first_of, start_of}
use Rattle.header.specs.declared.Limits.{Limits}
use Rattle.header.specs.declared.Start.{Start}
use Rattle.header.proofs.Orders.{header_free}
use Rattle.directory.specs.Directory.{slots_at, directory_at}
use Rattle.tiff.specs.Walk.{walk_checks, page_at, PageIs}
use Rattle.tags.specs.Inner.{SlotsThere}
use Rattle.directory.specs.declared.Directory.{Directory}
use Rattle.tiff.proofs.Accepted.{page_there}
use Rattle.picture.specs.declared.Format.{Format}
use Rattle.profile.specs.Profile.{profile_checks, format_of, profile_found}
use Rattle.profile.proofs.Answers.{profile_free}
use Rattle.front.specs.Front.{profile_fee, front_checks, format_seen, found_of}
use Rattle.front.specs.Inner.{paid_checks, found_paid, page_checks, found_page}
use Rattle.front.specs.declared.Found.{Found}

-- the charge, then the profile
module _ (v : Seen) (b : Bool) (entries : ℕ) (slots : List ℕ) (l : Limits) (left : ℕ) where
  pub unpaid : {r : Refused} → Err r ≡ run (pay profile_fee ∷ []) left → Err r ≡ found_paid v b entries slots l left
  unfolding paid_checks
  unpaid q = rw (stops (pay profile_fee ∷ []) (profile_checks v b slots l) left _ (sym q))

  module _ {u : ℕ} (q : Ok u ≡ run (pay profile_fee ∷ []) left) where
    paid : run (paid_checks v b slots l) left ≡ run (profile_checks v b slots l) u
    unfolding paid_checks
    paid = then (pay profile_fee ∷ []) (profile_checks v b slots l) left u (sym q)

    pub profile_refused : {e : Refusal} {r : Refused} → Err e ≡ profile_found v b entries slots l → r ≡ leaving e u
        → Err r ≡ found_paid v b entries slots l left
    profile_refused k z =
        let t = tests_refused (verdict (profile_checks v b slots l)) (format_of v b entries slots) _ k in
        rw (paid ∙ run_refused (profile_checks v b slots l) u _ (profile_free v b slots l) t, z)

    pub profile_fine : {f : Format} → Ok f ≡ profile_found v b entries slots l → Ok (record { format = f; left = u }) ≡ found_paid v b entries slots l left
    profile_fine k =
        let t = tests_passed (verdict (profile_checks v b slots l)) (format_of v b entries slots) _ k in
        rw (paid ∙ run_fine (profile_checks v b slots l) u (profile_free v b slots l) t.0, t.1)

-- the page, then the rest
module _ (v : Seen) (b : Bool) (first page : ℕ) (l : Limits) (left : ℕ) where
  walk : List Check
  walk = walk_checks v b l.max_tags page first

  profile : List Check
  profile = paid_checks v b (slots_at v b (page_at v b page first)) l

  pub page_refused : {r : Refused} → PageIs v b l.max_tags page first left (Err r) → Err r ≡ found_page v b first page l left
  unfolding page_checks walk profile
  page_refused is = rw (stops walk profile left _ (checks_refused (run walk left) (directory_at v b (page_at v b page first)) is))

  module _ {d : Directory} (is : PageIs v b l.max_tags page first left (Ok d)) where
    walked : (u : ℕ) × (run walk left ≡ Ok u) × (d ≡ directory_at v b (page_at v b page first) u)
    unfolding walk
    walked = checks_passed (run walk left) (directory_at v b (page_at v b page first)) is

    pub page_slots : SlotsThere v d.slots
    unfolding walk
    page_slots = let (u, q, e) = walked in rw e (page_there v b l.max_tags page first left u q)

    pub page_found : {r : Result Found Refused} → r ≡ found_paid v b d.entries d.slots l d.left → r ≡ found_page v b first page l left
    unfolding page_checks walk profile
    page_found k = let (u, q, e) = walked in rw (then walk profile left u q) (rw e at k)

-- the header, then the page
module _ (v : Seen) (page : ℕ) (l : Limits) (left : ℕ) where
  after : List Check
  after = page_checks v (big_endian v) (first_of v) page l

  split : front_checks v page l ≡ header_checks v ++ after
  unfolding front_checks after page_checks paid_checks
  split = refl

  pub header_refused : {e : Refusal} {r : Refused} → Err e ≡ start_of v (header_checks v) → r ≡ leaving e left → Err r ≡ found_of v page l left
  unfolding after
  header_refused q z =
      let t = tests_refused (verdict (header_checks v)) _ _ q in
      rw (split, stops (header_checks v) after left _ (run_refused (header_checks v) left _ (header_free v) t), z)

  pub header_at : {s : Start} {r : Result Found Refused} → Ok s ≡ start_of v (header_checks v) → r ≡ found_page v s.big s.first page l left
      → r ≡ found_of v page l left
  unfolding after
  header_at q k =
      let t = tests_passed (verdict (header_checks v)) _ _ q in
      rw (split, then (header_checks v) after left left (run_fine (header_checks v) left (header_free v) t.0)) (rw t.1 at k)

-- other checks after the front part: its refusal is theirs, and where it finds a format they go on with the units left
module _ (v : Seen) (page : ℕ) (l : Limits) (left : ℕ) (cs : List Check) where
  pub front_ends : {r : Refused} → Err r ≡ found_of v page l left → run (front_checks v page l ++ cs) left ≡ Err r
  front_ends q = stops (front_checks v page l) cs left _ (checks_refused (run (front_checks v page l) left) _ q)

  pub front_goes_on : {f : Found} → Ok f ≡ found_of v page l left
      → (run (front_checks v page l ++ cs) left ≡ run cs f.left) × (f.format ≡ format_seen v page)
  front_goes_on q =
      let (u, t, e) = checks_passed (run (front_checks v page l) left) _ q in (
        then (front_checks v page l) cs left u t ∙ ap (λ (x : Found). run cs x.left) (sym e),
        ap (λ (x : Found). x.format) e,
      )
