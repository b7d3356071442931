mod Halved
mod Edited
mod Opened
