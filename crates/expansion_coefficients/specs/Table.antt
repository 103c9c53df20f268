-- The flat table of the 172 coefficients (the source's U_POLY and V_POLY), by bit patterns: u_0 to u_10, then v_0 to
-- v_10, each from its highest power down; and its rows. `table_right` (proofs/Rule.antt) proves each entry to be the
-- float nearest to its fraction.
use Rattle.std.specs.Prelude.{List, [], ◌∷◌, ℕ, zero, suc, ◌+◌, Float, take, drop, get_or}
use Rattle.std.specs.Float.{nan}
use Rattle.floats.specs.Operations.{bits}
use Rattle.expansion_coefficients.specs.Dlmf.{count}

unfoldable pub coefficients : List Float
coefficients =
    -- u_0
    bits 0x3ff0_0000_0000_0000 ∷
    -- u_1
    bits 0x3fa5_5555_5555_5555 ∷
    bits 0xbfd0_0000_0000_0000 ∷
    -- u_2
    bits 0xbf80_0000_0000_0000 ∷
    bits 0x3fcb_aaaa_aaaa_aaab ∷
    bits 0x3fc0_1c71_c71c_71c7 ∷
    -- u_3
    bits 0xbf83_f5e2_ec67_aa09 ∷
    bits 0x3fa6_749f_49f4_9f4a ∷
    bits 0xbfb1_760b_60b6_0b61 ∷
    bits 0xbfd7_74bd_a12f_684c ∷
    bits 0xbfe4_01c7_1c71_c71c ∷
    -- u_4
    bits 0x3f5d_f0d4_629b_7f0d ∷
    bits 0xbf80_879f_ebc5_d8cf ∷
    bits 0xbf6f_e3a9_3117_cf1e ∷
    bits 0x3ff4_788e_9e06_522c ∷
    bits 0x4008_a2bc_9a3b_6ad3 ∷
    bits 0x3fd4_886c_d38a_d9dd ∷
    -- u_5
    bits 0x3f89_3a6e_c9b0_8e65 ∷
    bits 0xbfb7_a6c7_dd15_857e ∷
    bits 0x3fd3_16c2_fb55_a264 ∷
    bits 0xbfe1_5e15_03c8_55ce ∷
    bits 0x3fe5_361b_8871_6aa5 ∷
    bits 0xc016_5940_3e5d_f8d6 ∷
    bits 0xc031_e0eb_e5a5_1e45 ∷
    bits 0xc014_56a8_cfbf_f284 ∷
    -- u_6
    bits 0xbf62_ebd3_1744_6acb ∷
    bits 0x3f91_8aa1_083c_c302 ∷
    bits 0xbfa9_fdeb_8572_4865 ∷
    bits 0x3fb6_050f_cb10_71d1 ∷
    bits 0xbfd4_6509_9ac1_7e95 ∷
    bits 0x4039_d981_3832_663b ∷
    bits 0x405e_6df2_d41f_b69b ∷
    bits 0x404f_5837_ff76_37f1 ∷
    bits 0x4004_a7d2_2f64_85a1 ∷
    -- u_7
    bits 0xbfa3_5d87_106e_3db2 ∷
    bits 0x3fd9_6ac1_4590_b0fa ∷
    bits 0xbffe_246c_8b2b_18be ∷
    bits 0x4015_4f57_8966_7fe0 ∷
    bits 0xc023_f802_9d60_1715 ∷
    bits 0x4029_f5f5_851c_2635 ∷
    bits 0xc025_86e1_afcf_2ab5 ∷
    bits 0xc062_5af6_f450_c481 ∷
    bits 0xc08d_3f14_b9f0_0a04 ∷
    bits 0xc087_518b_9b63_ec46 ∷
    bits 0xc055_a49e_c16e_2a99 ∷
    -- u_8
    bits 0x3f7d_0c4a_98a5_5c8b ∷
    bits 0xbfb2_e955_e60b_a840 ∷
    bits 0x3fd5_e9a8_4413_5507 ∷
    bits 0xbfee_2477_ae1f_5b35 ∷
    bits 0x3ffc_761c_d55f_4918 ∷
    bits 0xc002_622f_7543_cb27 ∷
    bits 0xc013_2720_b5c4_3218 ∷
    bits 0x4090_dab7_8e5e_ba57 ∷
    bits 0x40bf_5586_64de_e44c ∷
    bits 0x40c1_b97f_0c74_9d56 ∷
    bits 0x409f_1da7_c0e5_42af ∷
    bits 0x4045_d3c2_86e7_3935 ∷
    -- u_9
    bits 0x3fcb_89d0_894d_993e ∷
    bits 0xc007_3c47_f3d9_794c ∷
    bits 0x4032_251b_df68_7776 ∷
    bits 0xc051_6090_167a_a43d ∷
    bits 0x4066_caed_5669_bf14 ∷
    bits 0xc075_a48a_1de9_92bf ∷
    bits 0x407e_a257_895a_b175 ∷
    bits 0xc080_69f9_8b3a_1e97 ∷
    bits 0x407d_b4d3_96e5_9046 ∷
    bits 0xc0c1_5cb9_e816_b464 ∷
    bits 0xc0f2_b008_c123_234e ∷
    bits 0xc0fc_168d_a860_61ab ∷
    bits 0xc0e3_988b_8a6a_3069 ∷
    bits 0xc0a3_bc5c_1c44_e34b ∷
    -- u_10
    bits 0xbfa4_a75c_66fa_32ef ∷
    bits 0x3fe1_51ac_2659_cd60 ∷
    bits 0xc00a_be15_52d5_804d ∷
    bits 0x4029_4049_66e5_7826 ∷
    bits 0xc040_5ac7_c12b_0ac0 ∷
    bits 0x404e_c0da_42c6_6f44 ∷
    bits 0xc055_2365_d39d_f3f5 ∷
    bits 0x4057_1796_99bd_ee53 ∷
    bits 0xc07c_e449_3960_5a31 ∷
    bits 0x40f2_f1c0_61cd_debc ∷
    bits 0x4128_9ed1_0e4d_d53d ∷
    bits 0x4137_6e70_c674_2e16 ∷
    bits 0x4127_82bb_4f65_6782 ∷
    bits 0x40f6_c4d7_0264_1c0a ∷
    bits 0x4093_d537_86ff_b677 ∷
    -- v_0
    bits 0x3ff0_0000_0000_0000 ∷
    -- v_1
    bits 0x3fa5_5555_5555_5555 ∷
    bits 0x3fd0_0000_0000_0000 ∷
    -- v_2
    bits 0x3f8a_aaaa_aaaa_aaab ∷
    bits 0xbfd2_2aaa_aaaa_aaab ∷
    bits 0xbfbf_c71c_71c7_1c72 ∷
    -- v_3
    bits 0xbf83_f5e2_ec67_aa09 ∷
    bits 0x3fa6_749f_49f4_9f4a ∷
    bits 0xbfb6_760b_60b6_0b61 ∷
    bits 0x3fe2_65a1_2f68_4bda ∷
    bits 0x3fe4_01c7_1c71_c71c ∷
    -- v_4
    bits 0xbf68_f35b_a781_948b ∷
    bits 0x3f8c_619e_a823_65c5 ∷
    bits 0xbf6f_445f_3c78_852a ∷
    bits 0xbff7_1a09_161f_9add ∷
    bits 0xc00a_acd1_9ea8_2366 ∷
    bits 0xbfd3_7b21_6558_b45c ∷
    -- v_5
    bits 0x3f89_3a6e_c9b0_8e65 ∷
    bits 0xbfb7_a6c7_dd15_857e ∷
    bits 0x3fd3_619d_0e4c_2721 ∷
    bits 0xbfe1_f1ea_1c6f_3591 ∷
    bits 0x3fe2_55df_bf39_94c9 ∷
    bits 0x4015_0f04_128a_a3ed ∷
    bits 0x4033_92cf_4c4a_727b ∷
    bits 0x4014_56a8_cfbf_f284 ∷
    -- v_6
    bits 0x3f6f_890a_7c1c_b1fe ∷
    bits 0xbf9d_c2ee_b1ee_47fb ∷
    bits 0x3fb7_2299_af34_7f65 ∷
    bits 0xbfc4_96d8_e374_8975 ∷
    bits 0x3fdb_9550_30b0_8de1 ∷
    bits 0xc03c_2cf1_65ab_77a3 ∷
    bits 0xc060_3669_3680_d2e0 ∷
    bits 0xc050_2b1d_e8c6_ae83 ∷
    bits 0xc004_057f_701b_5f67 ∷
    -- v_7
    bits 0xbfa3_5d87_106e_3db2 ∷
    bits 0x3fd9_6ac1_4590_b0fa ∷
    bits 0xbffe_3c13_5308_2e44 ∷
    bits 0x4015_786f_b7dd_0878 ∷
    bits 0xc024_262a_b109_d496 ∷
    bits 0x402a_3464_8756_e25f ∷
    bits 0xc02a_7fa3_9ab9_5f59 ∷
    bits 0x4065_b74e_cd12_f541 ∷
    bits 0x408e_c0fb_a112_e420 ∷
    bits 0x4088_3867_8e1d_d8b8 ∷
    bits 0x4055_a49e_c16e_2a99 ∷
    -- v_8
    bits 0xbf88_34e8_d489_cd1f ∷
    bits 0x3fbf_ec2c_a515_b9b3 ∷
    bits 0xbfe2_dcd0_ad9b_a2e7 ∷
    bits 0x3ffa_9172_df7c_aa8d ∷
    bits 0xc009_6908_6210_6fee ∷
    bits 0x4010_cbc8_34ea_e4a4 ∷
    bits 0x400b_9fdd_1ed7_d590 ∷
    bits 0xc091_eda3_ead0_3ad3 ∷
    bits 0xc0c0_803d_3008_edac ∷
    bits 0xc0c2_6080_d951_eefd ∷
    bits 0xc09f_9795_1005_c64e ∷
    bits 0xc045_757a_fbf5_1bfe ∷
    -- v_9
    bits 0x3fcb_89d0_894d_993e ∷
    bits 0xc007_3c47_f3d9_794c ∷
    bits 0x4032_29a5_cb10_514c ∷
    bits 0xc051_6bda_5d78_f883 ∷
    bits 0x4066_e2dd_6287_e0c3 ∷
    bits 0xc075_c209_a55b_4104 ∷
    bits 0x407e_dc0b_faaa_1f1b ∷
    bits 0xc080_888a_129e_5303 ∷
    bits 0x4077_a4c1_bab8_c1e1 ∷
    bits 0x40c1_4e6f_c4a9_76b0 ∷
    bits 0x40f3_a631_954a_6bf5 ∷
    bits 0x40fd_14da_4d5e_071e ∷
    bits 0x40e4_01cd_75ab_9fd0 ∷
    bits 0x40a3_bc5c_1c44_e34b ∷
    -- v_10
    bits 0x3fb1_3622_55d0_7fc7 ∷
    bits 0xbfed_26e3_c159_2539 ∷
    bits 0x4016_cb67_a3cf_39e8 ∷
    bits 0xc035_d8fc_829f_368e ∷
    bits 0x404c_c11a_08c1_63ce ∷
    bits 0xc05b_7f00_f33c_7ec8 ∷
    bits 0x4063_6e81_8706_dd1d ∷
    bits 0xc065_707c_25ab_2b60 ∷
    bits 0x4081_4000_ee42_2b7d ∷
    bits 0xc0f3_ede8_6f6a_c53a ∷
    bits 0xc129_b54f_853f_6698 ∷
    bits 0xc138_3e4a_42d2_bab5 ∷
    bits 0xc128_0cf2_e5c9_6faa ∷
    bits 0xc0f6_f7f6_94a4_38ce ∷
    bits 0xc093_a380_b18a_101e ∷
    []

-- entry i
abbrev pub entry : ℕ → Float
entry i = get_or coefficients i nan

-- where the row of u_s starts; that of v_s starts 86 entries later
unfoldable pub start : ℕ → ℕ
start zero = 0
start (suc s) = start s + count s

-- the source's U_POLY[s] and V_POLY[s]
unfoldable pub u_row : ℕ → List Float
u_row s = take (count s) (drop (start s) coefficients)

unfoldable pub v_row : ℕ → List Float
v_row s = take (count s) (drop (86 + start s) coefficients)
