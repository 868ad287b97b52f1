-- What is admitted: the format is that of the page, it can be read, and the lent buffers hold what it asks for.
use Prim.Native.Nat.{ℕ}
use mathlib.Core.Path.{◌≡◌, ap}
use mathlib.Core.List.{◌++◌}
use Rattle.checks.specs.Checks.{run, Holds}
use Rattle.checks.proofs.Exact.{accepted, holds_then}
use Rattle.seen.specs.Seen.{Seen, map_checks}
use Rattle.header.specs.Header.{limit_checks}
use Rattle.header.specs.declared.Limits.{Limits}
use Rattle.front.specs.Front.{front_checks, format_seen}
use Rattle.front.specs.declared.Found.{Found}
use Rattle.checks.proofs.Rules.{checks_passed}
use Rattle.front.proofs.Accepted.{front_readable}
use Rattle.picture.specs.Inner.{Readable}
use Rattle.admission.specs.Admission.{buffer_checks, patchy_checks, admitted}
use Rattle.admission.specs.Inner.{room_checks, charge_checks, admit_checks, admit_page_checks}
use Rattle.admission.specs.declared.Room.{Room}
use Rattle.std.specs.Prelude.{Ok}

module _ (v : Seen) (map page : ℕ) (l : Limits) (room : Room) (left : ℕ) {f : Found} (er : Ok f ≡ admitted v map page l room left) where
  passes : (u : ℕ) × (run (patchy_checks v map page l room) left ≡ Ok u) × (f ≡ record { format = format_seen v page; left = u })
  passes = checks_passed (run (patchy_checks v map page l room) left) _ er

  pub admitted_format_lem : f.format ≡ format_seen v page
  admitted_format_lem = let (u, t, e) = passes in ap (λ (x : Found). x.format) e

  parts : Holds (front_checks v page l) × Holds (admit_checks v (format_seen v page) l.max_output room)
  unfolding patchy_checks admit_page_checks admit_checks room_checks charge_checks
  parts =
      let (u, t, e) = passes in
      let all = ((accepted (patchy_checks v map page l room) left u).0 t).holds in
      let after_limits_lem = (holds_then (limit_checks v.size page l) (map_checks v.size map ++ admit_page_checks v page l room) all).1 in
      let after_map = (holds_then (map_checks v.size map) (admit_page_checks v page l room) after_limits_lem).1 in
      holds_then (front_checks v page l) (admit_checks v (format_seen v page) l.max_output room) after_map

  pub admitted_readable : Readable v f.format
  admitted_readable = rw admitted_format_lem (front_readable v page l parts.0)

  pub admitted_room : Holds (buffer_checks f.format room)
  unfolding admit_checks room_checks Holds
  admitted_room =
      let f' = format_seen v page in
      rw admitted_format_lem (holds_then (room_checks f' l.max_output room) (charge_checks v f') parts.1).0.1
