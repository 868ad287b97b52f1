-- What an image carries decodes as its handle does, and after a refusal it never decodes.
use Prim.Native.Nat.{ℕ, ◌<◌}
use mathlib.Core.Path.{◌≡◌, refl, sym, ◌∙◌}
use mathlib.Core.Logic.{◌↔◌}
use mathlib.Core.Bool.{Bool, true, false}
use mathlib.Core.List.{List, []}
use native.Mathlib.Omega.{arith}
use lib.Dec.{eqb}
use lib.ListN.{length}
use borrow.Author.Tests.{eqb-true, eq-eqb}
use Rattle.checks.specs.Numbers.{number_of, invalid, leaving}
use Rattle.checks.specs.declared.Refusal.{Refusal}
use Rattle.checks.specs.Checks.{run, Holds}
use Rattle.checks.proofs.Exact.{accepted}
use Rattle.checks.proofs.Rules.{must_no, must_yes}
use Rattle.seen.specs.Seen.{Seen, seen}
use Rattle.header.specs.declared.Limits.{Limits}
use Rattle.inspection.specs.Inspection.{inspected_of, is_handle}
use Rattle.decoding.specs.Strict.{decode_checks}
use Rattle.handle.specs.declared.Handle.{Handle}
use Rattle.handle.specs.Handle.{inspected_with}
use Rattle.plain_image.specs.Image.{no_limits, no_handle, refused, info_of, image_checks, image_decode_told}
use Rattle.image_info.specs.declared.Info.{Info}
use Rattle.promises.specs.Strict.{Decodes}
use Rattle.promises.proofs.Handles.{handle_exact, decode_exact}
use Rattle.std.specs.Prelude.{Ok, Err}

-- no page is below a limit of 0 directories, so what a refusal leaves is no handle
none_given : (v : Seen) → is_handle v no_limits no_handle ≡ false
none_given v = by (is_handle v no_limits no_handle) refl
  where
    by : (t : Bool) → is_handle v no_limits no_handle ≡ t → t ≡ false
    by true q =
        let none : 0 < 0 = ((handle_exact v no_limits no_handle).0 q).fine.page_fine.page_allowed in
        absurd (omega arith)
    by false q = refl

module _ (file output scratch : List ℕ) (units : ℕ) where
  -- where the number is 0 the handle decides
  by_handle : (i : Info) → i.number ≡ 0 → image_decode_told file i output scratch units
      ≡ run (decode_checks (seen file []) i.limits i.handle (length output) (length scratch)) units
  unfolding image_checks
  by_handle i z = sym (must_yes _ _ _ _ (eq-eqb _ _ z) refl)

  -- decode of an image succeeds, and leaves so many units, exactly if it carries no refusal and decode of its handle does; this is so of
  -- whatever an image may carry
  pub image_exact : (i : Info) (w : ℕ) → (image_decode_told file i output scratch units ≡ Ok w)
      ↔ ((i.number ≡ 0) × Decodes (seen file []) i.limits i.handle (length output) (length scratch) units w)
  unfolding image_checks Holds
  image_exact i w =
      let v = seen file [] in
      let exact = decode_exact v i.limits i.handle (length output) (length scratch) units w in (
        λ e.
            let z = eqb-true i.number 0 ((accepted (image_checks v i (length output) (length scratch)) units w).0 e).holds.0 in
            (z, exact.0 (sym (by_handle i z) ∙ e)),
        λ p. by_handle i p.0 ∙ exact.1 p.1,
      )

  carried_refusal : (e : ℕ) → image_decode_told file (refused e) output scratch units ≡ Err (leaving invalid units)
  unfolding image_checks
  carried_refusal e = by (eqb e 0) refl
    where
      by : (t : Bool) → eqb e 0 ≡ t → image_decode_told file (refused e) output scratch units ≡ Err (leaving invalid units)
      by true t = by_handle (refused e) (eqb-true e 0 t) ∙ sym (must_no _ _ _ _ (none_given (seen file [])))
      by false t = sym (must_no _ _ _ _ t)

  module _ (page : ℕ) (l : Limits) (u w : ℕ) where
    -- an image that an inspection gave is decoded as its handle is
    pub image_decodes : (h : Handle) → inspected_of (seen file []) page l u ≡ Ok (inspected_with h w)
        → image_decode_told file (info_of l (inspected_of (seen file []) page l u)) output scratch units
        ≡ run (decode_checks (seen file []) l h (length output) (length scratch)) units
    image_decodes h e = rw e (by_handle (info_of l (Ok (inspected_with h w))) refl)

    -- after a refusal, whatever its number, decode answers 2 and takes nothing
    pub image_refused : (e : Refusal) → inspected_of (seen file []) page l u ≡ Err (leaving e w)
        → image_decode_told file (info_of l (inspected_of (seen file []) page l u)) output scratch units ≡ Err (leaving invalid units)
    image_refused e q = rw q (carried_refusal (number_of e))
