-- The number of an alpha mode, as the words of a handle have it.
use Rattle.std.specs.Prelude.{ℕ}
use Rattle.image_info.specs.declared.AlphaMode.{AlphaMode}
use Rattle.image_info.specs.declared.AlphaMode.TheVariants as AlphaIs

-- pictures of this profile have no alpha
abbrev pub alpha_number : AlphaMode → ℕ
alpha_number AlphaIs.None = 0
