-- The named text that may stand behind new operations (this project's choice).
use Rattle.std.specs.Prelude.{◌≡◌, ◌⊎◌, ℕ, Bool, true, false, List, []}
use Rattle.gf_ops.specs.declared.op.Op.{Op}
use Rattle.gf_versions.specs.declared.ranking.TheConstants.{MOST_VERSIONS}
use Rattle.gf_visible.specs.ShownVersions.{HasMoreVisible}
use Rattle.gf_fig_named.specs.NamedText.{HasMoreColours, IsNamedText}

-- h has no named text: it shows more than 1,000 versions, or more than 512 colours
abbrev pub HasNoText : List Op → Type 0
HasNoText h = HasMoreVisible h MOST_VERSIONS ⊎ HasMoreColours h

-- the text is the named one of h, or empty where h has none
abbrev pub IsTextOf : List Op → List ℕ → Type 0
IsTextOf h text = IsNamedText h text ⊎ (HasNoText h × (text ≡ []))

-- what is shown of h: the named text where it was asked for, or else nothing
abbrev pub IsShownText : Bool → List Op → List ℕ → Type 0
IsShownText false h text = text ≡ []
IsShownText true h text = IsTextOf h text
