-- Examples of the definitions. In these texts ^ is ESC, < is BS and ~ is BEL.
use Rattle.std.proofs.Common.{◌≡◌, ℕ, true, false, List, [], ◌∷◌, ◌++◌, map, Some, None, refl}
use Rattle.std.specs.Prelude.{codes, replicate, ◌==◌, if◌then◌else◌}
use Rattle.sequences.specs.Looks.{applied}
use Rattle.sequences.specs.Parameters.{osc_link, parameters, sgr}
use Rattle.sequences.specs.Sequences.{sequence_len}
use Rattle.sequences.specs.Styled.{shown_text, styled, pen_at_end, START, Style}
use Rattle.sequences.specs.declared.look.Look.{Look}
use Rattle.sequences.specs.declared.look.Color.TheVariants.{Basic, Indexed, Rgb}
use Rattle.sequences.specs.declared.look.Underline.TheVariants.{Single, Curly}
use Rattle.sequences.specs.declared.look.TheConstants.{PLAIN}

abbrev typed : ℕ → ℕ
typed c = if c == 94 then 27 else (if c == 60 then 8 else (if c == 126 then 7 else c))

abbrev text_of : List ℕ → List ℕ
text_of text = map typed text

-- a complete sequence has a length, and an incomplete or malformed one has none
csi : sequence_len (text_of (codes "^[31mx")) ≡ Some 5
csi = refl

csi_with_intermediate : sequence_len (text_of (codes "^[?1 qx")) ≡ Some 6
csi_with_intermediate = refl

csi_incomplete : sequence_len (text_of (codes "^[31")) ≡ None
csi_incomplete = refl

csi_parameter_after_intermediate : sequence_len (text_of (codes "^[3 1m")) ≡ None
csi_parameter_after_intermediate = refl

csi_by_c1 : sequence_len (0x9B ∷ codes "31mx") ≡ Some 4
csi_by_c1 = refl

escape : sequence_len (text_of (codes "^(Bx")) ≡ Some 3
escape = refl

escape_with_final : sequence_len (text_of (codes "^7x")) ≡ Some 2
escape_with_final = refl

c1_alone : sequence_len (0x84 ∷ codes "x") ≡ Some 1
c1_alone = refl

next_line_is_no_introducer : sequence_len (0x85 ∷ codes "x") ≡ None
next_line_is_no_introducer = refl

osc_by_bel : sequence_len (text_of (codes "^]0;ab~x")) ≡ Some 7
osc_by_bel = refl

osc_by_st : sequence_len (text_of (codes "^]0;ab^\\x")) ≡ Some 8
osc_by_st = refl

osc_by_c1 : sequence_len (0x9D ∷ 0x30 ∷ 0x9C ∷ []) ≡ Some 3
osc_by_c1 = refl

dcs_not_by_bel : sequence_len (text_of (codes "^Pab~x")) ≡ None
dcs_not_by_bel = refl

string_ends_at_control : sequence_len (text_of (codes "^]0;a\nb~")) ≡ None
string_ends_at_control = refl

string_of_4096 : sequence_len (27 ∷ 0x5D ∷ (replicate 4096 0x61 ++ (10 ∷ []))) ≡ None
string_of_4096 = refl

longer_string : sequence_len (27 ∷ 0x5D ∷ (replicate 4097 0x61 ++ (10 ∷ []))) ≡ Some 4099
longer_string = refl

longer_string_with_controls : sequence_len (27 ∷ 0x50 ∷ (replicate 4097 0x61 ++ (0 ∷ 7 ∷ 27 ∷ 0x62 ∷ 27 ∷ 0x5C ∷ 0x63 ∷ []))) ≡ Some 4105
longer_string_with_controls = refl

longer_string_before_a_tab : sequence_len (27 ∷ 0x50 ∷ (replicate 4097 0x61 ++ (0 ∷ 9 ∷ 27 ∷ 0x5C ∷ []))) ≡ Some 4100
longer_string_before_a_tab = refl

-- the attributes after SGR with parameters
abbrev after : List ℕ → Look
after text = applied PLAIN (parameters text)

fields_of_parameters : parameters (codes "1;;38:2::7:80:999") ≡ (1 ∷ []) ∷ (0 ∷ []) ∷ (38 ∷ 2 ∷ 0 ∷ 7 ∷ 80 ∷ 256 ∷ []) ∷ []
fields_of_parameters = refl

bold_and_red : after (codes "1;31") ≡ record PLAIN { bold = true; foreground = Some (Basic 1) }
bold_and_red = refl

bold_and_faint_end_together : after (codes "1;2;3;22") ≡ record PLAIN { italic = true }
bold_and_faint_end_together = refl

twice_underlined : after (codes "21") ≡ after (codes "4:2")
twice_underlined = refl

curly : after (codes "4:3;58;5;9") ≡ record PLAIN { underline = Some Curly; underline_color = Some (Indexed 9) }
curly = refl

no_underline : after (codes "4;4:0") ≡ PLAIN
no_underline = refl

unknown_underline : after (codes "4;4:6") ≡ after (codes "4")
unknown_underline = refl

empty_is_reset : after (codes "1;") ≡ PLAIN
empty_is_reset = refl

none_is_reset : applied (after (codes "1")) (parameters []) ≡ PLAIN
none_is_reset = refl

index_is_no_basic_color : after (codes "38;5;1") ≡ record PLAIN { foreground = Some (Indexed 1) }
index_is_no_basic_color = refl

colors_by_semicolons : after (codes "48;2;1;2;3;9") ≡ record PLAIN { background = Some (Rgb 1 2 3); strike = true }
colors_by_semicolons = refl

colors_by_colons : after (codes "38:5:200;48:2:1:2:3") ≡ record PLAIN { foreground = Some (Indexed 200); background = Some (Rgb 1 2 3) }
colors_by_colons = refl

colors_with_a_space : after (codes "58:2::1:2:3") ≡ record PLAIN { underline_color = Some (Rgb 1 2 3) }
colors_with_a_space = refl

color_above_255 : after (codes "38;5;256;1") ≡ record PLAIN { bold = true }
color_above_255 = refl

color_incomplete : after (codes "1;38;2;1;2") ≡ record PLAIN { bold = true }
color_incomplete = refl

color_incomplete_by_colons : after (codes "38:5;1") ≡ record PLAIN { bold = true }
color_incomplete_by_colons = refl

unknown_kind_ends : after (codes "1;38;3;4;9") ≡ record PLAIN { bold = true }
unknown_kind_ends = refl

unknown_kind_by_colons_ends : after (codes "1;38:3;4;9") ≡ record PLAIN { bold = true }
unknown_kind_by_colons_ends = refl

unknown_changes_nothing : after (codes "1;26;77;1:2;99999999999999999999") ≡ record PLAIN { bold = true }
unknown_changes_nothing = refl

bright : after (codes "97;100;53") ≡ record PLAIN { foreground = Some (Basic 15); background = Some (Basic 8); overline = true }
bright = refl

sgr_alone : sgr (codes "1 m") ≡ None
sgr_alone = refl

sgr_private : sgr (codes ">1m") ≡ None
sgr_private = refl

link_with_parameters : osc_link (codes "8;id=1;u;v") ≡ Some (codes "id=1;u;v")
link_with_parameters = refl

link_end : osc_link (codes "8;id=1;") ≡ Some []
link_end = refl

no_link : osc_link (codes "8;u") ≡ None
no_link = refl

-- what a text shows
abbrev shows : List ℕ → List ℕ
shows text = shown_text (text_of text)

abbrev styles : List ℕ → List Style
styles text = map (λ shown. shown.1) (styled START (text_of text))

abbrev plain : Look → Style
plain look = record { look = look; link = [] }

removed : shows (codes "a^[31mb^]0;title~c^(Bd^cf") ≡ codes "abcdf"
unfolding shown_text
removed = refl

incomplete : shows (codes "a^[31^[mb^Pc") ≡ codes "a[31bPc"
unfolding shown_text
incomplete = refl

controls : shows (0x00 ∷ 0x09 ∷ 0x0D ∷ 0x1C ∷ 0x1F ∷ 0x7F ∷ 0x85 ∷ 0x99 ∷ 0xAD ∷ 0x2028 ∷ []) ≡ 0x09 ∷ 0x0D ∷ 0x1C ∷ 0x85 ∷ 0xAD ∷ 0x2028 ∷ []
unfolding shown_text
controls = refl

overstrikes : shows (codes "x<xy_<yz<_a<ab<c_<d<d_<_") ≡ codes "xyyzacd_"
unfolding shown_text
overstrikes = refl

lone_backspaces : shows (codes "<a<<b<") ≡ codes "ab"
unfolding shown_text
lone_backspaces = refl

no_overstrike_of_controls : shows (codes "\t<\t") ≡ codes "\t\t"
unfolding shown_text
no_overstrike_of_controls = refl

no_overstrike_over_sequences : shows (codes "a^[m<a") ≡ codes "aa"
unfolding shown_text
no_overstrike_over_sequences = refl

struck_bold : styles (codes "x<x") ≡ plain (record PLAIN { bold = true }) ∷ []
unfolding styled
struck_bold = refl

struck_underlined : styles (codes "_<xy<_") ≡ plain (record PLAIN { underline = Some Single }) ∷ plain (record PLAIN { underline = Some Single }) ∷ []
unfolding styled
struck_underlined = refl

struck_both : styles (codes "_<x<x") ≡ plain (record PLAIN { bold = true; underline = Some Single }) ∷ []
unfolding styled
struck_both = refl

struck_other : styles (codes "x<y") ≡ plain PLAIN ∷ []
unfolding styled
struck_other = refl

low_line_alone : styles (codes "_<_") ≡ plain (record PLAIN { bold = true }) ∷ []
unfolding styled
low_line_alone = refl

low_line_after_underline : styles (codes "_<x_<_") ≡ plain (record PLAIN { underline = Some Single }) ∷ plain (record PLAIN { underline = Some Single }) ∷ []
unfolding styled
low_line_after_underline = refl

low_line_after_underlined_tab : map (λ (s : Style). s.look.bold) (styles (codes "^[4m\t^[m_<_")) ≡ false ∷ false ∷ []
unfolding styled
low_line_after_underlined_tab = refl

low_line_after_both : styles (codes "_<x<x_<_")
    ≡ plain (record PLAIN { bold = true; underline = Some Single }) ∷ plain (record PLAIN { bold = true }) ∷ []
unfolding styled
low_line_after_both = refl

link : styled START (text_of (codes "^]8;;u~a^]8;;^\\b"))
    ≡ (0x61, record { look = PLAIN; link = codes ";u" }) ∷ (0x62, record { look = PLAIN; link = [] }) ∷ []
unfolding styled
link = refl

style_stays : (pen_at_end START (text_of (codes "a^[1mb"))).style ≡ plain (record PLAIN { bold = true })
unfolding pen_at_end
style_stays = refl
