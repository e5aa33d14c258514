-- The fields of the code are those of the data sheet.
use Rattle.std.proofs.Common.{◌≡◌, refl}
use Rattle.bitfields.specs.declared.csr.TheConstants as code_csr
use Rattle.bitfields.specs.Csr as sheet_csr
use Rattle.bitfields.specs.declared.fr1.TheConstants as code_fr1
use Rattle.bitfields.specs.Fr1 as sheet_fr1
use Rattle.bitfields.specs.declared.acr.TheConstants as code_acr
use Rattle.bitfields.specs.Acr as sheet_acr

pub csr_lsb_first : code_csr.LSB_FIRST ≡ sheet_csr.lsb_first
csr_lsb_first = refl

pub csr_mode : code_csr.MODE ≡ sheet_csr.mode
csr_mode = refl

pub csr_channel : code_csr.CHANNEL ≡ sheet_csr.channel
csr_channel = refl

pub fr1_sw_sync : code_fr1.SW_SYNC ≡ sheet_fr1.sw_sync
fr1_sw_sync = refl

pub fr1_hw_sync : code_fr1.HW_SYNC ≡ sheet_fr1.hw_sync
fr1_hw_sync = refl

pub fr1_dac_ref_pd : code_fr1.DAC_REF_PD ≡ sheet_fr1.dac_ref_pd
fr1_dac_ref_pd = refl

pub fr1_sync_clk_pd : code_fr1.SYNC_CLK_PD ≡ sheet_fr1.sync_clk_pd
fr1_sync_clk_pd = refl

pub fr1_ext_pd : code_fr1.EXT_PD ≡ sheet_fr1.ext_pd
fr1_ext_pd = refl

pub fr1_ext_clk_pd : code_fr1.EXT_CLK_PD ≡ sheet_fr1.ext_clk_pd
fr1_ext_clk_pd = refl

pub fr1_modulation : code_fr1.MODULATION ≡ sheet_fr1.modulation
fr1_modulation = refl

pub fr1_ramp_up_down : code_fr1.RAMP_UP_DOWN ≡ sheet_fr1.ramp_up_down
fr1_ramp_up_down = refl

pub fr1_profile_pin : code_fr1.PROFILE_PIN ≡ sheet_fr1.profile_pin
fr1_profile_pin = refl

pub fr1_charge_pump : code_fr1.CHARGE_PUMP ≡ sheet_fr1.charge_pump
fr1_charge_pump = refl

pub fr1_pll_divier : code_fr1.PLL_DIVIER ≡ sheet_fr1.pll_divier
fr1_pll_divier = refl

pub fr1_vco_high : code_fr1.VCO_HIGH ≡ sheet_fr1.vco_high
fr1_vco_high = refl

pub acr_asf : code_acr.ASF ≡ sheet_acr.asf
acr_asf = refl

pub acr_load_arr : code_acr.LOAD_ARR ≡ sheet_acr.load_arr
acr_load_arr = refl

pub acr_ramp : code_acr.RAMP ≡ sheet_acr.ramp
acr_ramp = refl

pub acr_multiplier : code_acr.MULTIPLIER ≡ sheet_acr.multiplier
acr_multiplier = refl

pub acr_step : code_acr.STEP ≡ sheet_acr.step
acr_step = refl

pub acr_arr : code_acr.ARR ≡ sheet_acr.arr
acr_arr = refl
