-- The codes of scripts (ISO 15924), which are the short names of Script values in PropertyValueAliases.txt.
use Rattle.std.specs.Prelude.{ℕ, ◌+◌, ◌*◌, List, [], ◌∷◌, codes, fold, map, slice_index_or}
use Rattle.ucd_script.specs.Script.{script_number}
use Rattle.ucd_script.specs.declared.Script.{Script}

-- a code of four letters as a number, with the first letter in the highest byte
abbrev pub tag : List ℕ → ℕ
tag name = fold (λ n letter. n * 256 + letter) 0 name

-- the code of each script, by its number
unfoldable pub script_codes : List ℕ
script_codes = map tag (
    codes "Adlm" ∷ codes "Aghb" ∷ codes "Ahom" ∷ codes "Arab" ∷ codes "Armi" ∷ codes "Armn" ∷ codes "Avst" ∷
    codes "Bali" ∷ codes "Bamu" ∷ codes "Bass" ∷ codes "Batk" ∷ codes "Beng" ∷ codes "Berf" ∷ codes "Bhks" ∷
    codes "Bopo" ∷ codes "Brah" ∷ codes "Brai" ∷ codes "Bugi" ∷ codes "Buhd" ∷ codes "Cakm" ∷ codes "Cans" ∷
    codes "Cari" ∷ codes "Cham" ∷ codes "Cher" ∷ codes "Chrs" ∷ codes "Copt" ∷ codes "Cpmn" ∷ codes "Cprt" ∷
    codes "Cyrl" ∷ codes "Deva" ∷ codes "Diak" ∷ codes "Dogr" ∷ codes "Dsrt" ∷ codes "Dupl" ∷ codes "Egyp" ∷
    codes "Elba" ∷ codes "Elym" ∷ codes "Ethi" ∷ codes "Gara" ∷ codes "Geor" ∷ codes "Glag" ∷ codes "Gong" ∷
    codes "Gonm" ∷ codes "Goth" ∷ codes "Gran" ∷ codes "Grek" ∷ codes "Gujr" ∷ codes "Gukh" ∷ codes "Guru" ∷
    codes "Hang" ∷ codes "Hani" ∷ codes "Hano" ∷ codes "Hatr" ∷ codes "Hebr" ∷ codes "Hira" ∷ codes "Hluw" ∷
    codes "Hmng" ∷ codes "Hmnp" ∷ codes "Hung" ∷ codes "Ital" ∷ codes "Java" ∷ codes "Jurc" ∷ codes "Kali" ∷
    codes "Kana" ∷ codes "Kawi" ∷ codes "Khar" ∷ codes "Khmr" ∷ codes "Khoj" ∷ codes "Kits" ∷ codes "Knda" ∷
    codes "Krai" ∷ codes "Kthi" ∷ codes "Lana" ∷ codes "Laoo" ∷ codes "Latn" ∷ codes "Lepc" ∷ codes "Limb" ∷
    codes "Lina" ∷ codes "Linb" ∷ codes "Lisu" ∷ codes "Lyci" ∷ codes "Lydi" ∷ codes "Mahj" ∷ codes "Maka" ∷
    codes "Mand" ∷ codes "Mani" ∷ codes "Marc" ∷ codes "Medf" ∷ codes "Mend" ∷ codes "Merc" ∷ codes "Mero" ∷
    codes "Mlym" ∷ codes "Modi" ∷ codes "Mong" ∷ codes "Mroo" ∷ codes "Mtei" ∷ codes "Mult" ∷ codes "Mymr" ∷
    codes "Nagm" ∷ codes "Nand" ∷ codes "Narb" ∷ codes "Nbat" ∷ codes "Newa" ∷ codes "Nkoo" ∷ codes "Nshu" ∷
    codes "Ogam" ∷ codes "Olck" ∷ codes "Onao" ∷ codes "Orkh" ∷ codes "Orya" ∷ codes "Osge" ∷ codes "Osma" ∷
    codes "Ougr" ∷ codes "Palm" ∷ codes "Pauc" ∷ codes "Pcun" ∷ codes "Perm" ∷ codes "Phag" ∷ codes "Phli" ∷
    codes "Phlp" ∷ codes "Phnx" ∷ codes "Plrd" ∷ codes "Prti" ∷ codes "Rjng" ∷ codes "Rohg" ∷ codes "Runr" ∷
    codes "Samr" ∷ codes "Sarb" ∷ codes "Saur" ∷ codes "Seal" ∷ codes "Sgnw" ∷ codes "Shaw" ∷ codes "Shrd" ∷
    codes "Sidd" ∷ codes "Sidt" ∷ codes "Sind" ∷ codes "Sinh" ∷ codes "Sogd" ∷ codes "Sogo" ∷ codes "Sora" ∷
    codes "Soyo" ∷ codes "Sund" ∷ codes "Sunu" ∷ codes "Sylo" ∷ codes "Syrc" ∷ codes "Tagb" ∷ codes "Takr" ∷
    codes "Tale" ∷ codes "Talu" ∷ codes "Taml" ∷ codes "Tang" ∷ codes "Tavt" ∷ codes "Tayo" ∷ codes "Telu" ∷
    codes "Tfng" ∷ codes "Tglg" ∷ codes "Thaa" ∷ codes "Thai" ∷ codes "Tibt" ∷ codes "Tirh" ∷ codes "Tnsa" ∷
    codes "Todr" ∷ codes "Tols" ∷ codes "Toto" ∷ codes "Tutg" ∷ codes "Ugar" ∷ codes "Vaii" ∷ codes "Vith" ∷
    codes "Wara" ∷ codes "Wcho" ∷ codes "Xpeo" ∷ codes "Xsux" ∷ codes "Yezi" ∷ codes "Yiii" ∷ codes "Zanb" ∷
    codes "Zinh" ∷ codes "Zyyy" ∷ codes "Zzzz" ∷ []
    )

abbrev pub iso_code : Script → ℕ
iso_code script = slice_index_or script_codes (script_number script) 0
