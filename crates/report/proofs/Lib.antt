mod Written
mod Inputs
