-- The front part of a reading passes its checks exactly if it is fine, and the format that it then finds can be read.
use Prim.Native.Nat.{ℕ, ◌+◌, ◌<◌}
use mathlib.Core.Path.{◌≡◌, refl, sym, ap, ◌∙◌}
use mathlib.Core.Logic.Iff
use mathlib.Core.Logic.{◌↔◌}
use mathlib.Core.List.{List, ◌∷◌, ◌++◌}
use mathlib.Core.Bool.{Bool, true, false, not}
use native.Mathlib.Omega.{arith}
use borrow.Author.Tests.{eqb-true, eqb-false}
use Rattle.checks.specs.Checks.{Check, pay, run, Holds, cost}
use Rattle.checks.specs.Exact.{Exact}
use Rattle.checks.proofs.Exact.{accepted, both, cost_then}
use Rattle.seen.specs.Seen.{Seen, There}
use Rattle.header.specs.Header.{header_checks, big_endian, first_of, HeaderFine}
use Rattle.directory.specs.Directory.{entries_at, slots_at}
use Rattle.tiff.specs.Walk.{walk_checks}
use Rattle.directory.specs.Accepted.{DirectoryFine}
use Rattle.tiff.specs.Accepted.{WalkFine}
use Rattle.header.specs.declared.Limits.{Limits}
use Rattle.header.proofs.Orders.{header_free}
use Rattle.header.proofs.Accepted.{header_fine}
use Rattle.tags.specs.Slots.{strip_offsets, strip_byte_counts, tile_offsets, tile_byte_counts, entry_in, absent}
use Rattle.directory.proofs.Accepted.{slots_there}
use Rattle.tiff.proofs.Accepted.{walk_fine, walk_cost}
use Rattle.picture.specs.Inner.{Valid, Readable}
use Rattle.picture.specs.declared.Format.{Format}
use Rattle.profile.specs.Profile.{numbers_of, shape_of, profile_checks, format_with, format_of}
use Rattle.profile.specs.Accepted.{TilesFine, StripsFine, ProfileFine}
use Rattle.profile.proofs.Answers.{profile_free}
use Rattle.profile.proofs.Accepted.{profile_holds, valid}
use Rattle.front.specs.Front.{profile_fee, slots_seen, page_seen, front_checks, format_seen, found, found_of}
use Rattle.front.specs.Accepted.{front_fee, FrontFine}
use Rattle.checks.proofs.Rules.{checks_passed}
use Rattle.front.specs.declared.Found.{Found}
use Rattle.checks.specs.Numbers.{Told}
use Rattle.std.specs.Prelude.{Ok}

-- so the format of a fine page can be read
module _ (v : Seen) (b : Bool) (maxTags at : ℕ) (l : Limits) (d : DirectoryFine v b maxTags at) (f : ProfileFine v b (slots_at v b at) l) where
  abbrev slots : List ℕ
  slots = slots_at v b at

  abbrev format_as : Bool → Format
  format_as t = format_with b (entries_at v b at) slots (shape_of (numbers_of v b slots) t)

  named : (k : ℕ) → 0 < entry_in slots k → There v (entry_in slots k) 12
  named k some = ((slots_there v b maxTags at d).at_slot k).entry (λ z. omega arith)

  tiled_readable : Valid (format_as true) → TilesFine v b (numbers_of v b slots) l slots → Readable v (format_as true)
  unfolding format_with shape_of
  tiled_readable ok t = record {
    valid = ok;
    offsets_there = named tile_offsets t.blocks.an_offset_each.present;
    an_offset_each = t.blocks.an_offset_each.as_many;
    counts_there = named tile_byte_counts t.blocks.a_count_each.present;
    a_count_each = t.blocks.a_count_each.as_many;
  }

  strip_readable : Valid (format_as false) → StripsFine v b (numbers_of v b slots) l slots → Readable v (format_as false)
  unfolding format_with shape_of
  strip_readable ok s = record {
    valid = ok;
    offsets_there = named strip_offsets s.blocks.an_offset_each.present;
    an_offset_each = s.blocks.an_offset_each.as_many;
    counts_there = named strip_byte_counts s.blocks.a_count_each.present;
    a_count_each = s.blocks.a_count_each.as_many;
  }

  page_readable : Readable v (format_of v b (entries_at v b at) slots)
  page_readable = by (absent (entry_in slots tile_offsets)) refl (valid v b (entries_at v b at) slots l f)
    where
      by : (t : Bool) → absent (entry_in slots tile_offsets) ≡ t → Valid (format_as (not t)) → Readable v (format_as (not t))
      by true e ok = strip_readable ok (f.strips (eqb-true (entry_in slots tile_offsets) 0 e))
      by false e ok = tiled_readable ok (f.tiles (eqb-false (entry_in slots tile_offsets) 0 e))

-- the front part: header, directories, 128 units, profile
module _ (v : Seen) (page : ℕ) (l : Limits) where
  abbrev walk : List Check
  walk = walk_checks v (big_endian v) l.max_tags page (first_of v)

  abbrev profile : List Check
  profile = profile_checks v (big_endian v) (slots_seen v page) l

  abbrev Walked : Type 0
  Walked = WalkFine v (big_endian v) l.max_tags page (first_of v)

  pub front_holds : Holds (front_checks v page l) ↔ (HeaderFine v × (Walked × ProfileFine v (big_endian v) (slots_seen v page) l))
  unfolding Holds front_checks
  front_holds =
      both (header_checks v) (walk ++ (pay profile_fee ∷ profile)) (header_fine v)
      (both walk (pay profile_fee ∷ profile) (walk_fine v (big_endian v) l.max_tags page (first_of v)) (profile_holds v (big_endian v) (slots_seen v page) l))

  pub front_cost : cost (front_checks v page l) ≡ front_fee v page
  unfolding cost front_checks
  front_cost =
      cost_then (header_checks v) (walk ++ (pay profile_fee ∷ profile))
      ∙ ap (λ (c : ℕ). cost (header_checks v) + c) (cost_then walk (pay profile_fee ∷ profile))
      ∙ rw (header_free v, walk_cost v (big_endian v) l.max_tags page (first_of v), profile_free v (big_endian v) (slots_seen v page) l) (omega arith)

  module _ (u w : ℕ) where
    exact_is : Exact (front_checks v page l) u w → FrontFine v page l u w
    exact_is x =
        let f = front_holds.0 x.holds in
        record {
          header = f.0;
          directories = f.1.0;
          profile = f.1.1;
          covered = omega (arith, front_cost, x.covered);
          rest = x.rest ∙ rw front_cost;
        }

    is_exact : FrontFine v page l u w → Exact (front_checks v page l) u w
    is_exact f = record {
      holds = front_holds.1 (f.header, (f.directories, f.profile));
      covered = omega (arith, front_cost, f.covered);
      rest = f.rest ∙ rw front_cost;
    }

    -- the front part passes, and leaves so many units, exactly if all of this is true
    pub front_fine : (run (front_checks v page l) u ≡ Ok w) ↔ FrontFine v page l u w
    front_fine = Iff.trans (accepted (front_checks v page l) u w) (exact_is, is_exact)

    -- so a picture is found exactly then, and its format is that of the page's directory
    pub picture_found : (f : Format) → (found_of v page l u ≡ Ok (record { format = f; left = w })) ↔ (FrontFine v page l u w × (f ≡ format_seen v page))
    picture_found f = (
      λ e.
          let (left, t, k) = checks_passed (run (front_checks v page l) u) _ (sym e) in
          (front_fine.0 (t ∙ ap (λ (x : Found). Ok x.left) (sym k)), ap (λ (x : Found). x.format) k),
      λ p. rw (front_fine.1 p.0, p.1),
    )

    -- and can be read
    pub readable : (f : Format) → found_of v page l u ≡ Ok (record { format = f; left = w }) → Readable v f
    readable f e =
        let p = (picture_found f).0 e in
        rw p.1 (page_readable v (big_endian v) l.max_tags (page_seen v page) l (p.0.directories.is_fine page (omega arith)) p.0.profile)

-- so the tests of the front part alone, whatever the units, give a format that can be read
pub front_readable : (v : Seen) (page : ℕ) (l : Limits) → Holds (front_checks v page l) → Readable v (format_seen v page)
front_readable v page l h =
    let fee = cost (front_checks v page l) in
    let p = (accepted (front_checks v page l) fee 0).1 (record { holds = h; covered = omega arith; rest = omega arith }) in
    readable v page l fee 0 (format_seen v page) (ap (λ (t : Told). found t (format_seen v page)) p)
